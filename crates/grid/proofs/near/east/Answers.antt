-- `east` meets its contract: a column to the right the hex is the next one.
-- Assumes nothing.
use Rattle.std.proofs.Common.{arith, ◌+◌}
use Rattle.grid.proofs.Spots.{spot_row, spot_number, spot_at}
use Rattle.grid.proofs.near.east.Goals as goal

pub returns : goal.returns
returns c =
    let o = c.requires in
    let s = c.args.s in (
      spot_at o (s.hex + 1) (s.column + 1) s.row (omega arith) (spot_row o) (omega (arith, spot_number o)),
      omega arith,
      omega arith,
    )
