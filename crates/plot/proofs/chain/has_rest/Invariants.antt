use Rattle.plot.proofs.Ends.{rest_way}
use Rattle.plot.specs.Trail.{trail_of}
use Rattle.plot.specs.Plot.{stand_in, next_in}
use Rattle.position.specs.Tally.{any}
use mathlib.Core.List.{◌∷◌}
use mathlib.Core.Bool.{false}
use mathlib.Core.Path.{◌≡◌}
use Prim.Native.Nat.{◌-◌, ◌≤◌}
use Rattle.plot.proofs.chain.has_rest.Given as goal

abbrev pub invariant-loop-d : goal.invariant-loop-d
invariant-loop-d l = (l.d ≤ 6) × (any (rest_way (next_in l.plot) (stand_in l.plot) (l.h ∷ trail_of l.t) l.h) l.d ≡ false)

abbrev pub decreases-loop-d : goal.decreases-loop-d
decreases-loop-d l = 6 - l.d
