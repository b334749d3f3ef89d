-- `plot::search::last` meets its contract.
-- Assumes nothing.
use Prim.Native.Nat.{◌-◌}
use Rattle.plot.proofs.Searching.{Unserved}
use Rattle.search.proofs.last.Given as goal

abbrev pub invariant-loop-d : goal.invariant-loop-d
invariant-loop-d l = Unserved l.home l.plot 1 l.i l.a l.plot l.d

abbrev pub decreases-loop-d : goal.decreases-loop-d
decreases-loop-d l = 6 - l.d
