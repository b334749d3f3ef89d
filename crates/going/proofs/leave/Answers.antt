-- `going::leave` meets its contract: another unit is placed and has no role. That a supply unit is destroyed needs no answer.
-- Assumes nothing.
use native.Mathlib.Omega.{arith}
use Rattle.position.proofs.Changes.{laid_make}
use Rattle.retreat.proofs.Leaving.{leave_walks}
use Rattle.going.proofs.leave.Goals as goal

pub assign-requires : goal.assign-requires
assign-requires c =
    (rw c.place.ensures (laid_make c.requires _), omega arith)

pub returns : goal.returns
returns c =
    leave_walks _ _ _ (λ supply. omega arith)
    c.place.ensures
    c.assign.ensures
