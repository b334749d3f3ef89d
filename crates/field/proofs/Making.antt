-- The same change made for one unit of a list after another.
-- Assumes nothing.
use Prim.Native.Nat.{◌+◌, ◌<◌, ◌≤◌, ℕ}
use mathlib.Core.List.{List, map}
use mathlib.Core.Path.{◌∙◌, ◌≡◌, ap, ap₂, refl, sym}
use native.Mathlib.Omega.{arith}
use lib.ListN.{get_or, length, take}
use lib.Seq.{take_all}
use Rattle.position.proofs.Changes.{laid_make, makes_snoc}
use Rattle.position.specs.Change.{Change, make, makes}
use Rattle.position.specs.Laid.{Laid}
use Rattle.position.specs.declared.View.{View}
use Rattle.field.proofs.Lists.{map_last, take_more}

pub record Making (f : ℕ → Change) (p : List ℕ) (v : View) (us : List ℕ) (i : ℕ) (q : List ℕ) : Type 0 where
  pub most : i ≤ length us
  pub made : q ≡ makes p (map f (take i us))
  pub laid : Laid q v

pub makes_more : (f : ℕ → Change) (p us : List ℕ) (i : ℕ) → i < length us → makes p (map f (take (i + 1) us)) ≡ make (makes p (map f (take i us))) (f (get_or us i 0))
makes_more f p us i l =
    ap (λ (x : List ℕ). makes p (map f x)) (take_more us i l)
    ∙ ap (makes p) (map_last f (take i us) (get_or us i 0))
    ∙ makes_snoc (map f (take i us)) (f (get_or us i 0)) p

module _ {f : ℕ → Change} {p us : List ℕ} {v : View} where
  pub making_none : Laid p v → Making f p v us 0 p
  unfolding makes
  making_none l = record { most = omega arith; made = refl; laid = l }

  pub making_more : {q r : List ℕ} {i u : ℕ} → Making f p v us i q → i < length us → u ≡ get_or us i 0 → r ≡ make q (f u) → Making f p v us (i + 1) r
  making_more {q} {r} {i} {u} o l e g =
      record {
        most = omega arith;
        made = g ∙ ap₂ (λ (x : List ℕ) (y : ℕ). make x (f y)) o.made e ∙ sym (makes_more f p us i l);
        laid = rw g (laid_make o.laid (f u));
      }

  pub making_all : {q : List ℕ} {i : ℕ} → Making f p v us i q → length us ≤ i → q ≡ makes p (map f us)
  making_all {q} {i} o l = o.made ∙ ap (λ (x : List ℕ). makes p (map f x)) (take_all i us l)
