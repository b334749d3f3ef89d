-- `going::go_off` meets its contract: start and route are written, the group leaves, and the stage passes on.
-- Assumes nothing.
use Rattle.position.proofs.Changes.{laid_make, laid_makes}
use Rattle.position.specs.Board.{board}
use Rattle.aftermath.proofs.Stages.{then_on_lem}
use Rattle.retreat.specs.Retreat.{retreat_changes}
use Rattle.retreat.proofs.Leaving.{gone_off}
use Rattle.going.proofs.go_off.Goals as goal

pub leave_all-requires : goal.leave_all-requires
leave_all-requires c =
    rw c.note.ensures (laid_make c.requires.0 _)

pub pass_on-requires : goal.pass_on-requires
pass_on-requires c =
    laid_makes _ (rw c.note.ensures (laid_make c.requires.0 _))
    c.leave_all.ensures

pub returns : goal.returns
returns c = (
  c.end_of-end.ensures,
  then_on_lem c.requires.0.shaped (retreat_changes (board c.args.p.now) c.args.h c.args.route.now)
      (gone_off c.requires.0.shaped c.args.h c.args.route.now c.end_of-end.ensures c.note.ensures
      c.leave_all.ensures)
      c.pass_on.ensures,
)
