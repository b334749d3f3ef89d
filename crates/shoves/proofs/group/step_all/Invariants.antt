-- `group::step_all` meets its contract. The loop's invariant: the units passed that owed there have gone, the others are as they were.
-- Assumes nothing.
use Rattle.position.specs.Board.{board}
use Rattle.shoves.specs.Shoves.{goes_to}
use Rattle.shoves.proofs.Sweeps.{Sweep, owing}
use Rattle.shoves.proofs.group.step_all.Given as goal

abbrev pub invariant-loop-u : goal.invariant-loop-u
invariant-loop-u l = Sweep (owing l.a) (goes_to (board l.initial.p) l.x) l.initial.p l.v l.u l.p
