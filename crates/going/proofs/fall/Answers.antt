-- `going::fall` meets its contract: start and part route are written, the group is destroyed, and the stage passes on.
-- Assumes nothing.
use Rattle.position.proofs.Changes.{laid_make, laid_makes}
use Rattle.position.specs.Board.{board}
use Rattle.aftermath.proofs.Stages.{then_on_lem}
use Rattle.retreat.specs.Retreat.{doom_changes}
use Rattle.retreat.proofs.Leaving.{fallen}
use Rattle.going.proofs.fall.Goals as goal

pub fall_all-requires : goal.fall_all-requires
fall_all-requires c =
    rw c.note.ensures (laid_make c.requires.0 _)

pub pass_on-requires : goal.pass_on-requires
pass_on-requires c =
    laid_makes _ (rw c.note.ensures (laid_make c.requires.0 _))
    c.fall_all.ensures

pub returns : goal.returns
returns c =
    then_on_lem c.requires.0.shaped (doom_changes (board c.args.p.now) c.args.h c.args.route.now)
    (fallen c.requires.0.shaped c.args.h c.args.route.now c.note.ensures
    c.fall_all.ensures)
    c.pass_on.ensures
