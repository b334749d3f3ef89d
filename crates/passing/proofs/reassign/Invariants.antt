-- `passing::reassign` meets its contract. The loop's invariant: the units passed have their new roles, the others are as they were.
--
-- Assumes nothing.
use Rattle.aftermath.proofs.Stages.{Renewing}
use Rattle.passing.proofs.reassign.Given as goal

abbrev pub invariant-loop-u : goal.invariant-loop-u
invariant-loop-u l = Renewing l.initial.p l.v l.from l.to l.u l.p
