-- The parts of a sum of 1, 2, 4 and 8, and a bit by its digit.
-- Assumes nothing.
use Prim.Native.Nat.{ℕ, ◌*◌, ◌/◌, ◌%◌, ◌≤◌, ◌<◌}
use mathlib.Core.Path.{◌≡◌}
use mathlib.Core.Bool.{true, false}
use native.Mathlib.Omega.{arith}
use native.Mathlib.Nat.{div-add-mod'}
use borrow.Author.Tests.{eq-eqb, eqb-false}
use Rattle.position.specs.Bits.{has, with, without, tried, supplied, moved, fought, marks_end}

module _ (k m : ℕ) where
  -- what lies below k, and what lies above it
  pub low : m % k ≤ m
  low = omega (arith, div-add-mod' m k)

  pub high : m / (2 * k) * (2 * k) ≤ m
  high = omega (arith, div-add-mod' m (2 * k))

-- a bit is there by its digit
pub bit_off : (b m : ℕ) → has b m ≡ false → m / b % 2 ≡ 0
unfolding has
bit_off b m e = let n = eqb-false (m / b % 2) 1 e in omega arith

pub bit_there : (b m : ℕ) → m / b % 2 ≡ 1 → has b m ≡ true
unfolding has
bit_there b m e = eq-eqb (m / b % 2) 1 e

pub bit_same : (b m n : ℕ) → m / b % 2 ≡ n / b % 2 → has b m ≡ has b n
unfolding has
bit_same b m n e = rw e

-- the marks of a unit
pub data UnitMark : ℕ → Type 0 where
  is-tried : UnitMark tried
  is_supplied : UnitMark supplied
  is_moved : UnitMark moved
  is_fought : UnitMark fought

-- a mark set or cleared stays within the marks
pub with_within : {k : ℕ} → UnitMark k → (m : ℕ) → m < marks_end → with k m < marks_end
unfolding with
with_within is-tried m l = omega arith
with_within is_supplied m l = omega arith
with_within is_moved m l = omega arith
with_within is_fought m l = omega arith

pub without_within : {k : ℕ} → UnitMark k → (m : ℕ) → m < marks_end → without k m < marks_end
unfolding without
without_within is-tried m l = omega arith
without_within is_supplied m l = omega arith
without_within is_moved m l = omega arith
without_within is_fought m l = omega arith
