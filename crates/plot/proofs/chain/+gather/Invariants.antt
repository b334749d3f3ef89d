-- The measure of the cycle of calls {gather} is how many places of the plot the chain up to the stack at hand has not used.
use Rattle.std.proofs.Common.{◌∷◌, ◌-◌, ◌≤◌}
use Rattle.plot.specs.Ends.{Marks}
use Rattle.plot.specs.Trail.{trail_of, unused}
use Rattle.plot.specs.Plot.{stand_in, next_in}
use Rattle.plot.proofs.Ends.{end_via, up_to}
use Rattle.plot.proofs.chain.+gather.Given as goal

abbrev pub decreases-gather : goal.decreases-gather
decreases-gather l = unused (l.h ∷ trail_of l.t)

abbrev pub invariant-loop-d : goal.invariant-loop-d
invariant-loop-d l = (l.d ≤ 6) × Marks l.x (up_to (end_via (next_in l.plot) (stand_in l.plot) (l.h ∷ trail_of l.t) (l.left - 1) l.h) l.d) l.initial.ends l.ends

abbrev pub decreases-loop-d : goal.decreases-loop-d
decreases-loop-d l = 6 - l.d
