-- The table of unit types, as the tests that read it.
-- Assumes nothing.
use Prim.Native.Nat.{ℕ, zero, suc, ◌<◌}
use mathlib.Core.Path.{◌≡◌, refl}
use mathlib.Core.Bool.{Bool, false, cond, ◌||◌}
use native.Mathlib.Omega.{arith}
use lib.Dec.{leb, eqb}
use borrow.Author.Tests.{lt-leb, ne_eqb}
use Rattle.position.specs.Kind.{by_kind, casts_zone, may_attack, moves_by_land, moves_in_phase2, always_tried, force, may_belong, may_allow}

-- what agrees with each row of the table agrees with the table
row_by_row : {A : Type 0} (f : ℕ → A) (k : ℕ) {none : A} → ((n : ℕ) → 5 < n → f n ≡ none) →
    f k ≡ by_kind k (f 0) (f 1) (f 2) (f 3) (f 4) (f 5) none
row_by_row f zero o = refl
row_by_row f (suc zero) o = refl
row_by_row f (suc (suc zero)) o = refl
row_by_row f (suc (suc (suc zero))) o = refl
row_by_row f (suc (suc (suc (suc zero)))) o = refl
row_by_row f (suc (suc (suc (suc (suc zero))))) o = refl
row_by_row f (suc (suc (suc (suc (suc (suc k)))))) o = o _ (omega arith)

-- the two rows that speak of another number, in the order of the tests
abbrev pub belongs : ℕ → ℕ → Bool
belongs k n =
    cond (eqb k 3) (eqb (force n) 3) (cond (eqb k 4) (eqb n 2) (cond (eqb k 5) (leb n 2) (cond (leb k 2) (leb n 4) false)))

abbrev pub allows : ℕ → ℕ → Bool
allows k a = cond (eqb k 5) (eqb a 0) (cond (leb k 4) (leb a 30) false)

module _ (k : ℕ) where
  pub casts_zone_lem : (eqb k 4 || leb k 2) ≡ casts_zone k
  unfolding casts_zone
  casts_zone_lem = row_by_row (λ n. eqb n 4 || leb n 2) k (λ n l. simp (ne_eqb n 4 (omega arith), lt-leb n 2 (omega arith)))

  pub may_attack_lem : leb k 4 ≡ may_attack k
  unfolding may_attack
  may_attack_lem = row_by_row (λ n. leb n 4) k (λ n l. lt-leb n 4 (omega arith))

  pub moves_by_land_lem : leb k 4 ≡ moves_by_land k
  unfolding may_attack moves_by_land
  moves_by_land_lem = may_attack_lem

  pub moves_in_phase_2 : leb k 1 ≡ moves_in_phase2 k
  unfolding moves_in_phase2
  moves_in_phase_2 = row_by_row (λ n. leb n 1) k (λ n l. lt-leb n 1 (omega arith))

  pub always_tried_lem : (eqb k 4 || eqb k 5) ≡ always_tried k
  unfolding always_tried
  always_tried_lem = row_by_row (λ n. eqb n 4 || eqb n 5) k (λ n l. simp (ne_eqb n 4 (omega arith), ne_eqb n 5 (omega arith)))

  pub may_belong_lem : (n : ℕ) → belongs k n ≡ may_belong k n
  unfolding may_belong
  may_belong_lem n =
      row_by_row
      (λ i. belongs i n)
      k
      (λ i l. simp (ne_eqb i 3 (omega arith), ne_eqb i 4 (omega arith), ne_eqb i 5 (omega arith), lt-leb i 2 (omega arith)))

  pub may_allow_lem : (a : ℕ) → allows k a ≡ may_allow k a
  unfolding may_allow
  may_allow_lem a =
      row_by_row
      (λ i. allows i a)
      k
      (λ i l. simp (ne_eqb i 5 (omega arith), lt-leb i 4 (omega arith)))
