-- `region::aside` meets its contract: a column more than one off is in no region, and no neighbour of it is.
-- Assumes nothing.
use native.Mathlib.Omega.{arith}
use Prim.Native.Nat.{◌+◌}
use borrow.Author.Tests.{ltb-true}
use Rattle.grid.proofs.Spots.{spot_column}
use Rattle.grid.proofs.Regions.{away_left, away_right}
use Rattle.grid.proofs.region.aside.Goals as goal

pub overflow_add-column : goal.overflow_add-column
overflow_add-column c = omega (arith, spot_column c.requires.0, c.requires.0.on.wide64)

pub overflow_add-column-2 : goal.overflow_add-column-2
overflow_add-column-2 c = omega (arith, spot_column c.requires.0, c.requires.0.on.wide64)

pub returns-then-column-at : goal.returns-then-column-at
returns-then-column-at c = λ e. away_left c.args.s.hex (omega (arith, c.requires.0.column))

pub returns : goal.returns
returns c =
    λ e. away_right c.args.s.hex (omega (arith, c.requires.0.column, ltb-true (c.args.at.left + c.args.at.wide) (c.args.s.column + 8) e))
