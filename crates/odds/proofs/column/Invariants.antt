-- `odds::column` meets its contract. The loop's invariant: `last` is the last column below c that is reached.
-- The measure is how many are left.
-- Assumes nothing.
use Prim.Native.Nat.{◌-◌}
use Rattle.position.specs.Board.{results}
use Rattle.odds.proofs.Columns.{Highest}
use Rattle.odds.specs.Odds.{last, reached}
use Rattle.odds.proofs.column.Given as goal

abbrev pub invariant-loop-c : goal.invariant-loop-c
invariant-loop-c l = Highest (reached (results l.p) l.attack l.defence) l.c l.columns l.last

abbrev pub decreases-loop-c : goal.decreases-loop-c
decreases-loop-c l = l.columns - l.c
