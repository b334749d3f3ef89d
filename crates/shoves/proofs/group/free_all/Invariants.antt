-- `group::free_all` meets its contract. The loop's invariant: the units passed that owed there have no role any more, the others are as
-- they were.
-- Assumes nothing.
use Rattle.shoves.specs.Shoves.{frees}
use Rattle.shoves.proofs.Sweeps.{Sweep, owing}
use Rattle.shoves.proofs.group.free_all.Given as goal

abbrev pub invariant-loop-u : goal.invariant-loop-u
invariant-loop-u l = Sweep (owing l.a) frees l.initial.p l.v l.u l.p
