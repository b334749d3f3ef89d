-- Laws of marks: one that is set is there, and leaves the others as they were.
-- Assumes nothing.
use Prim.Native.Nat.{ℕ, ◌+◌, ◌/◌, ◌%◌, ◌<◌}
use mathlib.Core.Path.{◌≡◌, refl, ap, subst, ◌∙◌}
use mathlib.Core.Bool.{true, false, ◌||◌}
use native.Mathlib.Omega.{arith}
use lib.Dec.{eqb}
use borrow.Author.Tests.{eq-eqb, ne_eqb}
use Rattle.position.specs.Bits.{has}
use Rattle.position.proofs.Tallies.{same_or, either}
use Rattle.position.proofs.BitLaws.{bit_off, bit_there, bit_same}
use Rattle.paint.specs.Paint.{Mark, in_zone, by_enemy, by_own, by_depot, by_any, spare, bit, Stamp, inked}

-- on a byte without mark i
module _ (m : ℕ) where
  gets : (i : Mark) → m / bit i % 2 ≡ 0 → (m + bit i) / bit i % 2 ≡ 1
  gets in_zone e = omega arith
  gets by_enemy e = omega arith
  gets by_own e = omega arith
  gets by_depot e = omega arith
  gets by_any e = omega arith
  gets spare e = omega arith

  fits : (i : Mark) → m / bit i % 2 ≡ 0 → m < 256 → m + bit i < 256
  fits in_zone e l = omega arith
  fits by_enemy e l = omega arith
  fits by_own e l = omega arith
  fits by_depot e l = omega arith
  fits by_any e l = omega arith
  fits spare e l = omega arith

  -- the lower digits and the higher ones stay
  higher : (n k : ℕ) → n / k ≡ m / k → n / k % 2 ≡ m / k % 2
  higher n k e = ap (λ (x : ℕ). x % 2) e

  keeps : (j i : Mark) → (bit j ≡ bit i → ⊥) → m / bit i % 2 ≡ 0 → (m + bit i) / bit j % 2 ≡ m / bit j % 2
  keeps in_zone in_zone d e = absurd (d refl)
  keeps in_zone by_enemy d e = omega arith
  keeps in_zone by_own d e = omega arith
  keeps in_zone by_depot d e = omega arith
  keeps in_zone by_any d e = omega arith
  keeps in_zone spare d e = omega arith
  keeps by_enemy in_zone d e = higher (m + 1) 2 (omega arith)
  keeps by_enemy by_enemy d e = absurd (d refl)
  keeps by_enemy by_own d e = omega arith
  keeps by_enemy by_depot d e = omega arith
  keeps by_enemy by_any d e = omega arith
  keeps by_enemy spare d e = omega arith
  keeps by_own in_zone d e = higher (m + 1) 4 (omega arith)
  keeps by_own by_enemy d e = higher (m + 2) 4 (omega arith)
  keeps by_own by_own d e = absurd (d refl)
  keeps by_own by_depot d e = omega arith
  keeps by_own by_any d e = omega arith
  keeps by_own spare d e = omega arith
  keeps by_depot in_zone d e = higher (m + 1) 8 (omega arith)
  keeps by_depot by_enemy d e = higher (m + 2) 8 (omega arith)
  keeps by_depot by_own d e = higher (m + 4) 8 (omega arith)
  keeps by_depot by_depot d e = absurd (d refl)
  keeps by_depot by_any d e = omega arith
  keeps by_depot spare d e = omega arith
  keeps by_any in_zone d e = higher (m + 1) 16 (omega arith)
  keeps by_any by_enemy d e = higher (m + 2) 16 (omega arith)
  keeps by_any by_own d e = higher (m + 4) 16 (omega arith)
  keeps by_any by_depot d e = higher (m + 8) 16 (omega arith)
  keeps by_any by_any d e = absurd (d refl)
  keeps by_any spare d e = omega arith
  keeps spare in_zone d e = higher (m + 1) 32 (omega arith)
  keeps spare by_enemy d e = higher (m + 2) 32 (omega arith)
  keeps spare by_own d e = higher (m + 4) 32 (omega arith)
  keeps spare by_depot d e = higher (m + 8) 32 (omega arith)
  keeps spare by_any d e = higher (m + 16) 32 (omega arith)
  keeps spare spare d e = absurd (d refl)

-- the byte with the mark, where it was there and where it was not
pub inked_has : (b m : ℕ) → has b m ≡ true → inked b m ≡ m
unfolding inked
inked_has b m e = simp e

pub inked_new : (b m : ℕ) → has b m ≡ false → inked b m ≡ m + b
unfolding inked
inked_new b m e = simp e

ink_there : (j i : Mark) (m : ℕ) → has (bit i) m ≡ true → has (bit j) m ≡ (eqb (bit j) (bit i) || has (bit j) m)
ink_there j i m e =
    same_or (bit j) (bit i)
    (λ q. simp (eq-eqb (bit j) (bit i) q) (ap (λ (b : ℕ). has b m) q ∙ e))
    (λ n. simp (ne_eqb (bit j) (bit i) n))

ink_new : (j i : Mark) (m : ℕ) → has (bit i) m ≡ false → has (bit j) (m + bit i) ≡ (eqb (bit j) (bit i) || has (bit j) m)
ink_new j i m e =
    same_or (bit j) (bit i)
    (λ q. simp (eq-eqb (bit j) (bit i) q) (ap (λ (b : ℕ). has b (m + bit i)) q ∙ bit_there (bit i) (m + bit i) (gets m i (bit_off (bit i) m e))))
    (λ n. simp (ne_eqb (bit j) (bit i) n) (bit_same (bit j) (m + bit i) m (keeps m j i n (bit_off (bit i) m e))))

ink_is : (j i : Mark) (m : ℕ) → has (bit j) (inked (bit i) m) ≡ (eqb (bit j) (bit i) || has (bit j) m)
ink_is j i m =
    either (has (bit i) m)
    (λ e. ap (has (bit j)) (inked_has (bit i) m e) ∙ ink_there j i m e)
    (λ e. ap (has (bit j)) (inked_new (bit i) m e) ∙ ink_new j i m e)

pub has_inked : (j : Mark) {b : ℕ} → Stamp b → (m : ℕ) → has (bit j) (inked b m) ≡ (eqb (bit j) b || has (bit j) m)
has_inked j s m = subst (λ (b : ℕ). has (bit j) (inked b m) ≡ (eqb (bit j) b || has (bit j) m)) s.is (ink_is j s.mark m)

-- it is a byte still
pub inked_fits : {b m : ℕ} → Stamp b → has b m ≡ false → m < 256 → m + b < 256
inked_fits {b} {m} s e l =
    let q : m / bit s.mark % 2 ≡ 0 = rw s.is (bit_off b m e) in
    omega (arith, fits m s.mark q l, s.is)

-- the marks that an empty byte has
pub has_none : (k : Mark) → has (bit k) 0 ≡ false
unfolding has
has_none in_zone = refl
has_none by_enemy = refl
has_none by_own = refl
has_none by_depot = refl
has_none by_any = refl
has_none spare = refl
