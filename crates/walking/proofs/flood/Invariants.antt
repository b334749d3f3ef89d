-- `flood` meets its contract. The invariant: what steps keep is kept, and a walk is under way at spot `s`. The measure is the work that the
-- marks leave to do.
-- Assumes nothing.
use Rattle.grid.specs.Spot.{SpotOf}
use Rattle.position.specs.Ground.{beside, next}
use Rattle.position.specs.Board.{ground}
use Rattle.walk.specs.Chain.{mark}
use Rattle.walk.specs.Trail.{Kept}
use Rattle.walk.proofs.Marks.{weigh}
use Rattle.walk.proofs.Trails.{Way}
use Rattle.walk.proofs.Runs.{work}
use Rattle.walking.proofs.flood.Given as goal

abbrev pub invariant-loop-t : goal.invariant-loop-t
invariant-loop-t l =
    Kept (next (ground l.p)) l.initial.buf l.buf × Way (next (ground l.p)) (beside (ground l.p)) (mark l.buf) l.s.hex l.from × SpotOf l.v.width l.v.height l.s

abbrev pub decreases-loop-t : goal.decreases-loop-t
decreases-loop-t l = weigh work l.buf
