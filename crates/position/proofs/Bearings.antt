-- Laws of bearings: the least number that passes a test, and the direction of a step.
-- Assumes nothing.
use Prim.Native.Nat.{ℕ, zero, suc, ◌<◌}
use mathlib.Core.Path.{◌≡◌, refl, sym, ap, ◌∙◌}
use mathlib.Core.Bool.{Bool, true, false}
use native.Mathlib.Omega.{arith}
use native.Mathlib.Numerals.{add-one}
use native.Mathlib.Decide.{ℕ_discrete}
use lib.Dec.{ltb}
use borrow.Author.Tests.{lt-ltb, le-ltb}
use Rattle.position.specs.Tally.{any}
use Rattle.position.specs.Board.{Map}
use Rattle.position.specs.Ground.{least, bearing, joined}
use Rattle.position.proofs.Tallies.{not_both, either, any_zero, any_miss, any_false, any_never, any_true}
use Rattle.position.proofs.Sides.{reaches, joined_is}

module _ (t : ℕ → Bool) where
  least_zero : least t 0 ≡ 0
  unfolding least
  least_zero = refl

  least_found : (n : ℕ) → any t n ≡ true → least t (suc n) ≡ least t n
  unfolding least
  least_found n e = simp e

  least_here : (n : ℕ) → any t n ≡ false → t n ≡ true → least t (suc n) ≡ n
  unfolding least
  least_here n e f = simp (e, f)

  least_past : (n : ℕ) → any t n ≡ false → t n ≡ false → least t (suc n) ≡ suc n
  unfolding least
  least_past n e f = simp (e, f)

  -- where none passes, it is the limit
  pub least_none : (n : ℕ) → any t n ≡ false → least t n ≡ n
  least_none zero e = least_zero
  least_none (suc n) e =
      least_past n (any_never t n (λ k l. any_false t (suc n) k e (omega arith))) (any_false t (suc n) n e (omega arith))

  -- the first that passes
  pub least_at : (n k : ℕ) → k < n → any t k ≡ false → t k ≡ true → least t n ≡ k
  least_at zero k l e f = absurd (omega arith)
  least_at (suc n) k l e f = at (ℕ_discrete k n) (λ m. least_at n k m e f)
    where
      at : Dec (k ≡ n) → (k < n → least t n ≡ k) → least t (suc n) ≡ k
      at (yes q) before = least_here n (ap (any t) (sym q) ∙ e) (ap t (sym q) ∙ f) ∙ sym q
      at (no d) before = let m : k < n = omega arith in least_found n (any_true t n k m f) ∙ before m

  -- where any passes, it is below the limit, and passes
  fails_both : {A : Type 0} (n : ℕ) → any t (suc n) ≡ true → any t n ≡ false → t n ≡ false → A
  fails_both n e f g = not_both (any t (suc n)) e (ap (any t) (sym (add-one n)) ∙ any_miss t n g ∙ f)

  pub least_below : (n : ℕ) → any t n ≡ true → least t n < n
  least_below zero e = not_both (any t 0) e (any_zero t)
  least_below (suc n) e =
      either (any t n)
      (λ f. omega (arith, least_found n f, least_below n f))
      (λ f. either (t n) (λ g. omega (arith, least_here n f g)) (λ g. fails_both n e f g))

  pub least_passes : (n : ℕ) → any t n ≡ true → t (least t n) ≡ true
  least_passes zero e = not_both (any t 0) e (any_zero t)
  least_passes (suc n) e =
      either (any t n)
      (λ f. ap t (least_found n f) ∙ least_passes n f)
      (λ f. either (t n) (λ g. ap t (least_here n f g) ∙ g) (λ g. fails_both n e f g))

module _ (m : Map) (h x : ℕ) where
  bearing_is : bearing m h x ≡ least (reaches m h x) 6
  unfolding bearing reaches
  bearing_is = refl

  -- the direction found, and none
  pub bearing_at : (d : ℕ) → d < 6 → any (reaches m h x) d ≡ false → reaches m h x d ≡ true → bearing m h x ≡ d
  bearing_at d l e f = bearing_is ∙ least_at (reaches m h x) 6 d l e f

  pub bearing_none : any (reaches m h x) 6 ≡ false → bearing m h x ≡ 6
  bearing_none e = bearing_is ∙ least_none (reaches m h x) 6 e

  -- a step leads that way exactly if the hexes are joined
  pub bearing_below : joined m h x ≡ true → bearing m h x < 6
  bearing_below e = rw bearing_is (least_below (reaches m h x) 6 (sym (joined_is m h x) ∙ e))

  pub bearing_reaches : joined m h x ≡ true → reaches m h x (bearing m h x) ≡ true
  bearing_reaches e = rw bearing_is (least_passes (reaches m h x) 6 (sym (joined_is m h x) ∙ e))

  pub bearing_apart : joined m h x ≡ false → bearing m h x ≡ 6
  bearing_apart e = bearing_none (sym (joined_is m h x) ∙ e)

  pub bearing_joined : ltb (bearing m h x) 6 ≡ joined m h x
  bearing_joined =
      either (joined m h x)
      (λ e. lt-ltb (bearing m h x) 6 (bearing_below e) ∙ sym e)
      (λ e. le-ltb (bearing m h x) 6 (omega (arith, bearing_apart e)) ∙ sym e)
