-- `settling::mark_all` meets its contract. The loop's invariant: the units passed have fought.
-- Assumes nothing.
use Rattle.results.proofs.Settles.{Marking}
use Rattle.results.proofs.settling.mark_all.Given as goal

abbrev pub invariant-loop-u : goal.invariant-loop-u
invariant-loop-u l = Marking l.initial.p l.v l.us l.u-index l.p
