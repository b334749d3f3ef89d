-- Laws of one unit: working numbers, and whose phase it is.
-- Assumes nothing.
use Prim.Native.Nat.{ℕ, ◌≤◌}
use mathlib.Core.Path.{◌≡◌}
use mathlib.Core.Bool.{Bool, true, false, not}
use native.Mathlib.Omega.{arith}
use lib.Dec.{eqb}
use borrow.Author.Tests.{eq-eqb, ne_eqb}
use Rattle.position.specs.Board.{Board, nowhere, force_of}
use Rattle.position.proofs.Tallies.{either}
use Rattle.field.specs.Working.{half, working}
use Rattle.field.specs.Phasing.{not_phasing}

-- in supply and out of it
module _ (b : Board) (u : ℕ) (s : Bool) (n : ℕ) where
  pub working_whole : s ≡ true → working b u s n ≡ n
  unfolding working
  working_whole e = simp e

  pub working_half : s ≡ false → working b u s n ≡ half n
  unfolding working
  working_half e = simp e

  half_most : half n ≤ n
  unfolding half
  half_most = omega arith

  pub working_most : working b u s n ≤ n
  working_most = either s (λ e. omega (arith, working_whole e)) (λ e. omega (arith, working_half e, half_most))

-- a destroyed unit, and one on the map
module _ (b : Board) (u : ℕ) where
  pub phasing_destroyed : b.units.state.hex u ≡ nowhere → not_phasing b u ≡ true
  unfolding not_phasing
  phasing_destroyed e = simp (eq-eqb (b.units.state.hex u) nowhere e)

  pub phasing_mapped : (b.units.state.hex u ≡ nowhere → ⊥) → not_phasing b u ≡ not (eqb (force_of b u) b.desk.clock.force)
  unfolding not_phasing
  phasing_mapped e = simp (ne_eqb (b.units.state.hex u) nowhere e)
