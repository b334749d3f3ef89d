-- The measure of the cycle of calls {take} is how many places of the plot the chain up to the stack at hand has not used.
use Rattle.std.proofs.Common.{◌∷◌}
use Rattle.plot.specs.Trail.{trail_of, unused}
use Rattle.follow.proofs.+take.Given as goal

abbrev pub decreases-take : goal.decreases-take
decreases-take l = unused (l.h ∷ trail_of l.t)
