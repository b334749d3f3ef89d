-- `going::fall_all` meets its contract. The loop's invariant: the units passed that owed there are destroyed, the others are as they were.
-- Assumes nothing.
use Rattle.shoves.proofs.Sweeps.{Sweep, owing}
use Rattle.retreat.proofs.Leaving.{falls}
use Rattle.going.proofs.fall_all.Given as goal

abbrev pub invariant-loop-u : goal.invariant-loop-u
invariant-loop-u l = Sweep (owing l.h) falls l.initial.p l.v l.u l.p
