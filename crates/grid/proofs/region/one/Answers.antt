-- `region::one` meets its contract: its one column and row are those of the spot.
-- Assumes nothing.
use native.Mathlib.Omega.{arith}
use Rattle.grid.proofs.Spots.{spot_column, spot_row}
use Rattle.grid.proofs.region.one.Goals as goal

pub overflow_add-result : goal.overflow_add-result
overflow_add-result c = omega (arith, spot_column c.requires, c.requires.on.wide64)

pub overflow_add-result-2 : goal.overflow_add-result-2
overflow_add-result-2 c = omega (arith, spot_row c.requires, c.requires.on.high64)

pub returns : goal.returns
returns c =
    let o = c.requires in
    record {
      ok =
          record {
            left = omega (arith, spot_column o, o.on.wide64);
            top = omega (arith, spot_row o, o.on.high64);
            wide = omega arith;
            high = omega arith;
            reaches = omega arith;
          };
      size = omega arith;
      here =
          record {
            on = o.on;
            left = omega (arith, o.column);
            right = omega (arith, o.column);
            top = omega (arith, o.row);
            bottom = omega (arith, o.row);
          };
    }
