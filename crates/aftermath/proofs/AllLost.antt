-- Losses that name all that owe pass every question.
-- Assumes nothing.
use Prim.Native.Nat.{ℕ, ◌+◌, ◌≤◌, ◌<◌}
use mathlib.Core.Path.{◌≡◌, refl, sym, ap, ◌∙◌}
use mathlib.Core.Bool.{true, false, not, and-false, or-true}
use mathlib.Core.List.{List, [], ◌∷◌, ◌++◌}
use native.Mathlib.Omega.{arith}
use lib.ListN.{length}
use borrow.Author.Tests.{eq-eqb, ne_eqb}
use Rattle.position.specs.Board.{Board}
use Rattle.position.specs.Crowd.{holders}
use Rattle.position.specs.Role as Role
use Rattle.position.specs.Stage as Stage
use Rattle.position.proofs.Tallies.{any_never, either, not_both}
use Rattle.ruling.specs.Judged.{Passes}
use Rattle.ruling.specs.Verdict.{along}
use Rattle.ruling.proofs.Meets.{pass}
use Rattle.field.specs.Listed.{and_then, named, sieve}
use Rattle.field.proofs.Lists.{list_fits, named_last, named_nil, sieve_long}
use Rattle.field.proofs.Named.{Once, named_here, named_more, sieve_names}
use Rattle.field.proofs.Sieves.{sieve_once, sieve_passes, there_passes}
use Rattle.aftermath.specs.Losses.{enough, loss, loss_checks, losses, owes, passed_over, spared, spared_special}
use Rattle.aftermath.proofs.Losing.{short_special, spared_not, spared_owes, special_not}

module _ (p : List ℕ) (b : Board) where
  -- units that owe, once each, pass refusals 4 and 6
  owing_passes :
      (before xs : List ℕ) (k : ℕ) → ((w : ℕ) → named xs w ≡ true → owes b w ≡ true)
      → ((w : ℕ) → named xs w ≡ true → named before w ≡ false) → Once xs
      → Passes p (λ v. along (loss b) and_then before xs k (λ s. v))
  unfolding along loss and_then
  owing_passes before [] k f n o l v a q m g = g
  owing_passes before (x ∷ xs) k f n o l v a q m g =
      pass (ap not (f x (named_here x xs x refl)))
      (pass (n x (named_here x xs x refl))
      (owing_passes (before ++ (x ∷ [])) xs (k + 1) (λ w e. f w (named_more x xs w e))
      (λ w e.
      named_last before x w (n w (named_more x xs w e))
      ∙ ne_eqb x w (λ z. not_both (named xs w) e (ap (named xs) (sym z) ∙ o.0)))
      o.1
      l v a q m g))

module _ (b : Board) where
  abbrev all : List ℕ
  all = sieve (owes b) b.units.count

  -- none is spared, so it is enough, and no special infantry is passed over
  spares_none : (u : ℕ) → u < b.units.count → spared b all u ≡ false
  spares_none u l =
      either (owes b u)
      (λ e. spared_owes b all u e ∙ ap not (sieve_names (owes b) b.units.count u l e))
      (λ e. spared_not b all u e)

  all_enough : enough b all ≡ true
  unfolding enough
  all_enough = simp (any_never (spared b all) b.units.count spares_none, or-true)

  all_special : passed_over b all ≡ false
  unfolding passed_over
  all_special =
      simp
      (any_never (spared_special b all) b.units.count (λ u l. special_not b all u (spares_none u l)), and-false)

  all_long : length all ≡ holders b Role.owes
  unfolding holders owes
  all_long = sieve_long (owes b) b.units.count

  pub all_pass :
      (p : List ℕ) → b.desk.battle.stage ≡ Stage.losses → 1 ≤ holders b Role.owes → holders b Role.owes ≤ 18
      → Passes p (loss_checks b (sieve (owes b) b.units.count))
  unfolding loss_checks losses
  all_pass p e low high l v a q m g =
      let n = b.units.count in
      pass (ap not (list_fits all (omega (arith, all_long)) (omega (arith, all_long))))
      (there_passes p b all (λ w f. (sieve_passes (owes b) n w f).0) l _ a q m
      (pass (ap not (eq-eqb b.desk.battle.stage Stage.losses e))
      (owing_passes p b [] all 1 (λ w f. (sieve_passes (owes b) n w f).1) (λ w f. named_nil w) (sieve_once (owes b) n) l _ a q m
      (pass (short_special b all all_enough ∙ all_special) g))))
