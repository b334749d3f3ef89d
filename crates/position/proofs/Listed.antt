-- Asking the first k of a list: what `contains` and `any` of the library come to there.
-- Assumes nothing.
use Rattle.std.specs.Prelude.{ℕ, ◌<◌, ◌≤◌, ◌≡◌, Bool, true, false, List, length, get_or, take}
use mathlib.Core.Path.{sym, ap, ◌∙◌}
use native.Mathlib.Omega.{arith}
use lib.Seq.{get_or-take, length-take-le}
use denote.Bor.{Bor}
use denote.Param.Members.{Mut}
use Rattle.std.specs.Fn.{Called}
use Rattle.std.specs.Iterator.{ChecksAny}
use Rattle.std.specs.List.{IsAnyAnswer}
use Rattle.std.specs.Slice.Iter.{iter_rest}
use Rattle.std.specs.declared.slice.Iter.{Iter}
use Rattle.std.proofs.iter.Yields.{fronts}
use Rattle.std.proofs.lemmas.Iterator.{YieldsList-from_slice, cases_from_any}
use Rattle.position.specs.Tally.{any}
use Rattle.position.proofs.Tallies.{any_true, any_never}

module _ {A : Type 0} (t : A → Bool) (xs : List A) (d : A) {k : ℕ} (l : k ≤ length xs) where
  -- an answer for the first k
  pub asked : (r : Bool) → IsAnyAnswer (λ y b. t y ≡ b) (take k xs) r → r ≡ any (λ j. t (get_or xs j d)) k
  asked true h =
      let m : h.0 < k = omega (arith, h.1, length-take-le k xs l) in
      sym (any_true (λ j. t (get_or xs j d)) k h.0 m (ap t (sym (get_or-take k xs h.0 d m)) ∙ h.2 d))
  asked false h =
      sym (any_never (λ j. t (get_or xs j d)) k (λ j m. ap t (sym (get_or-take k xs j d m)) ∙ h j d (omega arith) (omega (arith, length-take-le k xs l))))

  -- `any` over them, where each call of the closure answers by the test
  pub any_listed :
      {F : Type 0} {g : Mut F (Bor A × Unit {0}) Bool} {s u : Iter A} {f : F} {r : Bool} → iter_rest s ≡ take k xs → ChecksAny fronts g s f r u
      → ((x : Bor A) (b : Bool) (q : F) → Called g f (x, tt) b q → (q ≡ f) × (b ≡ t x.now)) → r ≡ any (λ j. t (get_or xs j d)) k
  any_listed {f = f} {r = r} e ran c =
      asked r
      (cases_from_any _ f r (λ x. t x ≡ true) (λ x. t x ≡ false) ran (YieldsList-from_slice (take k xs) e)
      (λ x q h. sym (c x true q h).1) (λ x q h. ((c x false q h).0, sym (c x false q h).1)))
