-- `odds::smallest` meets its contract. The loop's invariant: `low` is the smallest of the first unit and of those passed.
-- Assumes nothing.
use Prim.Native.Nat.{◌+◌}
use Rattle.position.specs.Board.{board}
use Rattle.odds.proofs.Columns.{Lowest}
use Rattle.odds.specs.Odds.{crossed}
use Rattle.odds.proofs.smallest.Given as goal

abbrev pub invariant-loop-u : goal.invariant-loop-u
invariant-loop-u l = Lowest (crossed (board l.p) l.target) l.units (l.u-index + 1) l.low
