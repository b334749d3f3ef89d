-- `losses::judge_losses` meets its contract: each test's answer is its function's, one after the other.
-- Assumes nothing.
use Prim.Native.Nat.{ℕ, ◌≤◌}
use mathlib.Core.Bool.{not}
use mathlib.Core.List.{List}
use lib.ListN.{length}
use mathlib.Core.Path.{◌∙◌, ◌≡◌, ap, subst, sym}
use native.Mathlib.Omega.{arith}
use borrow.Author.Tests.{eq-eqb, ne_eqb}
use lib.Dec.{eqb}
use Rattle.std.proofs.lemmas.Result.{err_from_is_err_and}
use Rattle.position.specs.Board.{board}
use Rattle.position.specs.Stage as Stage
use Rattle.ruling.proofs.Meets.{pass, stop}
use Rattle.ruling.specs.Judged.{Passes}
use Rattle.ruling.specs.Verdict.Verdict.{refuse_if}
use Rattle.field.proofs.Lists.{list_fits, list_long, list_short}
use Rattle.field.specs.Listed.{all_there, list_length}
use Rattle.aftermath.specs.Losses.{loss_checks, losses}
use Rattle.losses.proofs.judge_losses.Goals as goal

-- the tests passed so far: of the length, along the list, of the stage, and of each unit
module _ (p units : List ℕ) where
  there : 1 ≤ length units → length units ≤ 18 → Passes p (all_there (board p) units)
      → Passes p (λ v. refuse_if (not (list_length units)) 3 0 (all_there (board p) units v))
  there lo hi f l v r q m w = pass (ap not (list_fits _ lo hi)) (f l v r q m w)

  timed : 1 ≤ length units → length units ≤ 18 → Passes p (all_there (board p) units) → (board p).desk.battle.stage ≡ Stage.losses
      → Passes p (λ v. refuse_if (not (list_length units)) 3 0
      (all_there (board p) units (refuse_if (not (eqb (board p).desk.battle.stage Stage.losses)) 2 0 v)))
  timed lo hi f e l v r q m w =
      there lo hi f l _ r q m (pass (ap not (eq-eqb (board p).desk.battle.stage Stage.losses e)) w)

  owed : 1 ≤ length units → length units ≤ 18 → Passes p (all_there (board p) units) → (board p).desk.battle.stage ≡ Stage.losses
      → Passes p (losses (board p) units)
      → Passes p (λ v. refuse_if (not (list_length units)) 3 0
      (all_there (board p) units (refuse_if (not (eqb (board p).desk.battle.stage Stage.losses)) 2 0 (losses (board p) units v))))
  owed lo hi f e g l v r q m w = timed lo hi f e l _ r q m (g l v r q m w)

pub returns-then-units-lt1 : goal.returns-then-units-lt1
unfolding loss_checks
returns-then-units-lt1 c = λ l v. stop (ap not (list_short _ c.if-units-lt1.true))

pub returns-then-units-gt18 : goal.returns-then-units-gt18
unfolding loss_checks
returns-then-units-gt18 c = λ l v. stop (ap not (list_long _ c.if-units-gt18.true))

pub all_there-requires : goal.all_there-requires
all_there-requires c = (c.requires, omega arith)

pub returns-in_err-all_there : goal.returns-in_err-all_there
unfolding loss_checks
returns-in_err-all_there c =
    let e = err_from_is_err_and c.from_residual.result c.from_residual.ensures.1 in
    rw (e.1, e.2) (λ l v. pass (ap not (list_fits _ (omega arith) (omega arith))) (c.in_err-all_there.ensures l _))

pub returns-then-stage-ne-LOSSES : goal.returns-then-stage-ne-LOSSES
unfolding loss_checks
returns-then-stage-ne-LOSSES c =
    let a = c.args in
    λ l v. there a.p.now a.units.now (omega arith) (omega arith) c.in_ok-all_there.ensures.0 l _ _ _ _ (stop (ap not (ne_eqb (board a.p.now).desk.battle.stage Stage.losses (λ e. c.if-stage-ne-LOSSES.true (c.stage.ensures.is ∙ e)))))

pub each_loss-requires : goal.each_loss-requires
each_loss-requires c = (c.requires, omega arith)

pub returns-in_err-each_loss : goal.returns-in_err-each_loss
unfolding loss_checks
returns-in_err-each_loss c =
    let e = err_from_is_err_and c.from_residual-in_err-each_loss.result c.from_residual-in_err-each_loss.ensures.1 in
    rw (e.1, e.2) (λ l v. timed c.args.p.now c.args.units.now (omega arith) (omega arith) c.in_ok-all_there.ensures.0 (sym c.stage.ensures.is ∙ c.if-stage-ne-LOSSES.false) l _ _ _ _ (c.in_err-each_loss.ensures l _))

pub short-requires : goal.short-requires
short-requires c = (c.requires, omega arith)

pub returns-then-short : goal.returns-then-short
unfolding loss_checks
returns-then-short c = λ l v. owed c.args.p.now c.args.units.now (omega arith) (omega arith) c.in_ok-all_there.ensures.0 (sym c.stage.ensures.is ∙ c.if-stage-ne-LOSSES.false) c.in_ok-each_loss.ensures.0 l _ _ _ _ (stop (sym c.short.ensures ∙ c.if-short.true))

pub returns : goal.returns
unfolding loss_checks
returns c = (λ l v r q m w. owed c.args.p.now c.args.units.now (omega arith) (omega arith) c.in_ok-all_there.ensures.0 (sym c.stage.ensures.is ∙ c.if-stage-ne-LOSSES.false) c.in_ok-each_loss.ensures.0 l _ r q m (pass (sym c.short.ensures ∙ c.if-short.false) w), tt)
