-- `losses::lose` meets its contract: the three writes are the changes of losses and the stage that follows.
-- Assumes nothing.
use native.Mathlib.Omega.{arith}
use mathlib.Core.List.{map}
use Rattle.position.specs.Change.Change.{destroyed}
use Rattle.position.specs.Board.{board}
use Rattle.position.proofs.Changes.{laid_makes}
use Rattle.aftermath.proofs.Losing.{lost_then}
use Rattle.aftermath.proofs.Stages.{then_on_lem}
use Rattle.aftermath.specs.Losses.{loss_changes}
use Rattle.aftermath.specs.Stage.{reassigned}
use Rattle.position.specs.Role as Role
use Rattle.losses.proofs.lose.Goals as goal

pub reassign-requires : goal.reassign-requires
reassign-requires c = (
  (let a = c.args in
      laid_makes (map destroyed a.units.now) c.requires c.destroy_all.ensures),
  omega arith,
)

pub pass_on-requires : goal.pass_on-requires
pass_on-requires c = laid_makes (reassigned (board c.destroy_all.new.p) Role.owes Role.advances) (let a = c.args in
    laid_makes (map destroyed a.units.now) c.requires c.destroy_all.ensures) c.reassign.ensures

pub returns : goal.returns
returns c =
    let a = c.args in
    then_on_lem c.requires.shaped (loss_changes (board a.p.now) a.units.now)
    (lost_then c.requires.shaped a.units.now
    c.destroy_all.ensures
    c.reassign.ensures)
    c.pass_on.ensures
