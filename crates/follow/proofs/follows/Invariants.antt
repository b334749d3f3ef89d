-- `plot::follow::follows` meets its contract. The loop's invariant: the answer is what comes of the rest of the route and of the pushes.
-- Assumes nothing.
use Rattle.grid.specs.Region.{place_in}
use Rattle.plot.proofs.Following.{Followed}
use Rattle.follow.proofs.follows.Given as goal

abbrev pub invariant-loop-i : goal.invariant-loop-i
invariant-loop-i l = Followed (place_in l.w l.height l.at) l.home l.initial.plot l.route l.pushes l.plot l.a l.k l.i
