-- The measures of the cycle of calls {go_on, over, serves, shoves, with_end, with_ends}. Only `serves` calls with fewer steps left; the
-- others, which it comes to before it calls itself again, have their places between 6k and 6k + 6.
use Rattle.std.proofs.Common.{◌+◌, ◌-◌, ◌*◌}
use Rattle.plot.proofs.Searching.{Unserved, Unended}
use Rattle.search.proofs.+go_on_over_serves_shoves_with_end_with_ends.Given as goal

abbrev pub decreases-go_on : goal.decreases-go_on
decreases-go_on l = 6 * l.k + 1

abbrev pub decreases-over : goal.decreases-over
decreases-over l = 6 * l.k + 5

abbrev pub decreases-serves : goal.decreases-serves
decreases-serves l = 6 * l.k

abbrev pub decreases-shoves : goal.decreases-shoves
decreases-shoves l = 6 * l.k + 4

abbrev pub decreases-with_end : goal.decreases-with_end
decreases-with_end l = 6 * l.k + 2

abbrev pub decreases-with_ends : goal.decreases-with_ends
decreases-with_ends l = 6 * l.k + 3

-- no step in the directions passed goes on
abbrev pub invariant-serves-loop-d : goal.invariant-serves-loop-d
invariant-serves-loop-d l = Unserved l.home l.initial.plot l.k l.i l.a l.plot l.d

abbrev pub decreases-serves-loop-d : goal.decreases-serves-loop-d
decreases-serves-loop-d l = 6 - l.d

-- no end of a chain in the places passed goes on
abbrev pub invariant-with_ends-loop-y : goal.invariant-with_ends-loop-y
invariant-with_ends-loop-y l = Unended l.home l.initial.plot l.ends l.k l.i l.a l.x l.plot l.y

abbrev pub decreases-with_ends-loop-y : goal.decreases-with_ends-loop-y
decreases-with_ends-loop-y l = 182 - l.y
