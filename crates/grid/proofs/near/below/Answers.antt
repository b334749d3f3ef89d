-- `below` meets its contract: a row lower the hex is as many hexes behind as the map is wide.
-- Assumes nothing.
use Rattle.std.proofs.Common.{arith, ◌+◌}
use Rattle.grid.proofs.Spots.{spot_column, row_below, spot_at}
use Rattle.grid.proofs.near.below.Goals as goal

pub returns : goal.returns
returns c =
    let o = c.requires in
    let s = c.args.s in (
      spot_at o (s.hex + c.args.w) s.column (s.row + 1) (spot_column o) (omega arith) (omega (arith, row_below o)),
      omega arith,
      omega arith,
    )
