-- `going::leave_all` meets its contract. The loop's invariant: the units passed that owed there have left, the others are as they were.
-- Assumes nothing.
use Rattle.position.specs.Board.{board}
use Rattle.retreat.specs.Retreat.{leaves}
use Rattle.shoves.proofs.Sweeps.{Sweep, owing}
use Rattle.going.proofs.leave_all.Given as goal

abbrev pub invariant-loop-u : goal.invariant-loop-u
invariant-loop-u l = Sweep (owing l.h) (leaves (board l.initial.p) l.end) l.initial.p l.v l.u l.p
