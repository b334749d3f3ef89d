-- `clear::move_stack` meets its contract. The loop's invariant: the units passed that stood there have gone, the others are as they were.
-- Assumes nothing.
use Rattle.shoves.specs.Shoves.{shifts}
use Rattle.shoves.proofs.Sweeps.{Sweep, standing}
use Rattle.shoves.proofs.clear.move_stack.Given as goal

abbrev pub invariant-loop-u : goal.invariant-loop-u
invariant-loop-u l = Sweep (standing l.h) (shifts l.z) l.initial.p l.v l.u l.p
