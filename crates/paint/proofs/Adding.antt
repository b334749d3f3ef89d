-- Laws of marks added to a region's hexes: none, one, and one after the other.
-- Assumes nothing.
use Prim.Native.Nat.{ℕ, ◌<◌}
use mathlib.Core.Path.{◌≡◌, refl, sym, ap, subst, ◌∙◌}
use mathlib.Core.Bool.{Bool, true, false, ◌||◌, and-true, and-false}
use mathlib.Core.List.{List}
use lib.ListN.{length, set, length-set}
use borrow.Author.Tests.{eq-eqb, ne_eqb}
use Rattle.grid.specs.declared.region.Region.{Region}
use Rattle.grid.specs.Region.{Inside, place_of}
use Rattle.grid.proofs.Regions.{place_one}
use Rattle.position.specs.Bits.{has}
use Rattle.position.specs.Layout.{byte}
use Rattle.position.proofs.Tallies.{same_or}
use Rattle.paint.specs.Paint.{Mark, bit, Stamp, Adds, inked, only}
use Rattle.paint.proofs.Bytes.{byte_set, byte_other}
use Rattle.paint.proofs.Inks.{has_inked}

or_assoc : (a b c : Bool) → (a || (b || c)) ≡ ((a || b) || c)
or_assoc true b c = refl
or_assoc false b c = refl

only_other : (b x : ℕ) (k : Mark) (h : ℕ) → (x ≡ h → ⊥) → only b x k h ≡ false
unfolding only
only_other b x k h n = simp (ne_eqb x h n, and-false)

-- what t says, and then what u says
unfoldable pub also : (Mark → ℕ → Bool) → (Mark → ℕ → Bool) → Mark → ℕ → Bool
also t u k h = u k h || t k h

module _ {w tall : ℕ} {at : Region} where
  pub adds_none : {t : Mark → ℕ → Bool} {l : List ℕ} → ((k : Mark) (h : ℕ) → Inside w tall at h → t k h ≡ false) → Adds w tall at t l l
  adds_none {t} {l} f = record { long = refl; each = λ k h i. sym (ap (λ (b : Bool). b || has (bit k) (byte l (place_of w at h))) (f k h i)) }

  pub adds_as : {t u : Mark → ℕ → Bool} {l m : List ℕ} → Adds w tall at t l m → ((k : Mark) (h : ℕ) → Inside w tall at h → t k h ≡ u k h) → Adds w tall at u l m
  adds_as {l = l} a f =
      record {
        long = a.long;
        each = λ k h i. a.each k h i ∙ ap (λ (b : Bool). b || has (bit k) (byte l (place_of w at h))) (f k h i);
      }

  pub adds_also : {t u : Mark → ℕ → Bool} {l m n : List ℕ} → Adds w tall at t l m → Adds w tall at u m n → Adds w tall at (also t u) l n
  unfolding also
  adds_also {t} {u} {l} a b =
      record {
        long = b.long ∙ a.long;
        each = λ k h i.
            b.each k h i
            ∙ ap (λ (x : Bool). u k h || x) (a.each k h i)
            ∙ or_assoc (u k h) (t k h) (has (bit k) (byte l (place_of w at h)));
      }

  -- one mark on one hex
  module _ (l m : List ℕ) (b x : ℕ) (s : Stamp b) (i : Inside w tall at x) (room : place_of w at x < length l)
      (e : m ≡ set l (place_of w at x) (inked b (byte l (place_of w at x)))) where
    here : (k : Mark) (h : ℕ) → h ≡ x → has (bit k) (byte m (place_of w at h)) ≡ (only b x k h || has (bit k) (byte l (place_of w at h)))
    unfolding only
    here k h q =
        let o = place_of w at x in
        let v = inked b (byte l o) in
        rw (q, e) (ap (has (bit k)) (byte_set l o v room) ∙ has_inked k s (byte l o) ∙ sym (simp (eq-eqb x x refl, and-true)))

    elsewhere : (k : Mark) (h : ℕ) → Inside w tall at h → (h ≡ x → ⊥) → has (bit k) (byte m (place_of w at h)) ≡ (only b x k h || has (bit k) (byte l (place_of w at h)))
    unfolding only
    elsewhere k h j n =
        let o = place_of w at x in
        let v = inked b (byte l o) in
        rw e (ap (has (bit k)) (byte_other l o v (place_of w at h) (λ q. n (place_one j i q))) ∙ sym (simp (ne_eqb x h (λ q. n (sym q)), and-false)))

    pub adds_stamp : Adds w tall at (only b x) l m
    adds_stamp =
        record {
          long = ap length e ∙ length-set l (place_of w at x) (inked b (byte l (place_of w at x)));
          each = λ k h j. same_or h x (here k h) (elsewhere k h j);
        }

  pub adds_set : {l : List ℕ} {b x j v : ℕ} → Stamp b → Inside w tall at x → place_of w at x < length l → j ≡ place_of w at x → v ≡ inked b (byte l j)
      → Adds w tall at (only b x) l (set l j v)
  adds_set {l} {b} {x} {j} {v} s i room e q = adds_stamp l (set l j v) b x s i room (ap (set l j) q ∙ ap (λ (n : ℕ). set l n (inked b (byte l n))) e)

  -- and none, if the hex lies outside
  pub adds_outside : {l : List ℕ} (b x : ℕ) → (Inside w tall at x → ⊥) → Adds w tall at (only b x) l l
  adds_outside b x f = adds_none (λ k h i. only_other b x k h (λ e. f (subst (Inside w tall at) (sym e) i)))
