-- `above` meets its contract: a row higher the hex is as many hexes before as the map is wide.
-- Assumes nothing.
use Rattle.std.proofs.Common.{arith, ◌-◌}
use Rattle.grid.proofs.Spots.{spot_column, spot_row, row_above, spot_at}
use Rattle.grid.proofs.near.above.Goals as goal

pub overflow_sub-result : goal.overflow_sub-result
overflow_sub-result c = omega (arith, row_above c.requires (omega arith))

pub returns : goal.returns
returns c =
    let o = c.requires in
    let s = c.args.s in (
      spot_at o (s.hex - c.args.w) s.column (s.row - 1) (spot_column o) (omega (arith, spot_row o)) (omega (arith, row_above o (omega arith))),
      omega arith,
      omega arith,
    )
