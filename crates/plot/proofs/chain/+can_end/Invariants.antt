-- The measure of the cycle of calls {can_end} is how many places of the plot the chain up to the stack at hand has not used.
use Rattle.std.proofs.Common.{◌∷◌, ◌-◌}
use Rattle.plot.specs.Trail.{trail_of, unused}
use Rattle.plot.proofs.Ending.{Endless}
use Rattle.plot.proofs.chain.+can_end.Given as goal

abbrev pub decreases-can_end : goal.decreases-can_end
decreases-can_end l = unused (l.h ∷ trail_of l.t)

abbrev pub invariant-loop-d : goal.invariant-loop-d
invariant-loop-d l = Endless l.plot (trail_of l.t) l.left l.h l.d

abbrev pub decreases-loop-d : goal.decreases-loop-d
decreases-loop-d l = 6 - l.d
