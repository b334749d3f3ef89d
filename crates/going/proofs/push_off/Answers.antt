-- `going::push_off` meets its contract: start and route are written, the group goes step by step, and the stage passes on.
-- Assumes nothing.
use Rattle.position.proofs.Changes.{laid_make, laid_makes}
use Rattle.position.specs.Board.{board}
use Rattle.aftermath.proofs.Stages.{then_on_lem}
use Rattle.retreat.specs.Retreat.{push_changes}
use Rattle.retreat.proofs.Leaving.{pushed_off}
use Rattle.going.proofs.push_off.Goals as goal

pub march_off-requires : goal.march_off-requires
march_off-requires c =
    rw c.note.ensures (laid_make c.requires.0 _)

pub pass_on-requires : goal.pass_on-requires
pass_on-requires c =
    laid_makes _ (rw c.note.ensures (laid_make c.requires.0 _))
    c.march_off.ensures

pub returns : goal.returns
returns c = (
  c.end_of-end.ensures,
  then_on_lem c.requires.0.shaped (push_changes (board c.args.p.now) c.args.h c.args.route.now c.args.pushes.now)
      (pushed_off c.requires.0.shaped c.args.h c.args.route.now c.args.pushes.now c.note.ensures
      c.march_off.ensures)
      c.pass_on.ensures,
)
