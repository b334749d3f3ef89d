-- `advance::close` meets its promise: the stage, and then the roles and the stage that follows.
-- Assumes nothing.
use mathlib.Core.Path.{◌∙◌, ap, sym}
use native.Mathlib.Omega.{arith}
use mathlib.Core.Bool.{not}
use borrow.Author.Tests.{eq-eqb, ne_eqb}
use Rattle.position.specs.Board.{board}
use Rattle.position.specs.Change.{makes}
use Rattle.position.specs.Stage as Stage
use Rattle.position.specs.Role as Role
use Rattle.position.proofs.Changes.{laid_makes}
use Rattle.ruling.proofs.Meets.{pass, ruled, stop}
use Rattle.aftermath.proofs.Advancing.{closed_is}
use Rattle.aftermath.proofs.Stages.{then_on_lem}
use Rattle.aftermath.specs.Advance.{close_changes, close_rule}
use Rattle.aftermath.specs.Stage.{reassigned}
use Rattle.advance.proofs.close.Goals as goal

pub returns-then-stage-ne-ADVANCES : goal.returns-then-stage-ne-ADVANCES
unfolding close_rule
returns-then-stage-ne-ADVANCES c =
    let b = board c.args.p.now in
    stop (ap not (ne_eqb b.desk.battle.stage Stage.advances (λ e. c.if-stage-ne-ADVANCES.true (c.stage.ensures.is ∙ e))))

pub reassign-requires : goal.reassign-requires
reassign-requires c = (c.requires, omega arith)

pub pass_on-requires : goal.pass_on-requires
pass_on-requires c =
    laid_makes (reassigned (board c.args.p.now) Role.advances Role.none) c.requires c.reassign.ensures

pub returns : goal.returns
unfolding close_rule
returns c =
    let p = c.args.p.now in
    pass (ap not (eq-eqb (board p).desk.battle.stage Stage.advances (sym c.stage.ensures.is ∙ c.if-stage-ne-ADVANCES.false)))
    (ruled
    (then_on_lem c.requires.shaped (close_changes (board p)) (c.reassign.ensures ∙ ap (makes p) (closed_is (board p)))
    c.pass_on.ensures))
