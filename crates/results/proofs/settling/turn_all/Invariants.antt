-- `settling::turn_all` meets its contract. The loop's invariant: the units passed are turned over.
-- Assumes nothing.
use Rattle.results.proofs.Settles.{Turning}
use Rattle.results.proofs.settling.turn_all.Given as goal

abbrev pub invariant-loop-u : goal.invariant-loop-u
invariant-loop-u l = Turning l.initial.p l.v l.us l.u-index l.p
