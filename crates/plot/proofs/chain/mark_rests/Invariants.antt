use Rattle.plot.proofs.Ends.{up_to, rest_at}
use Rattle.plot.specs.Ends.{Marks}
use Rattle.plot.specs.Trail.{trail_of}
use Rattle.plot.specs.Plot.{stand_in, next_in}
use mathlib.Core.List.{◌∷◌}
use Prim.Native.Nat.{◌-◌, ◌≤◌}
use Rattle.plot.proofs.chain.mark_rests.Given as goal

abbrev pub invariant-loop-d : goal.invariant-loop-d
invariant-loop-d l = (l.d ≤ 6) × Marks l.x (up_to (rest_at (next_in l.plot) (stand_in l.plot) (l.h ∷ trail_of l.t) l.h) l.d) l.initial.ends l.ends

abbrev pub decreases-loop-d : goal.decreases-loop-d
decreases-loop-d l = 6 - l.d
