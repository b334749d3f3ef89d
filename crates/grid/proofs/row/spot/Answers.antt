-- `row::spot` meets its contract: a row and a column below those of the map make the number of a hex of it.
-- Assumes nothing.
use mathlib.Core.Path.{refl, sym}
use native.Mathlib.Omega.{arith}
use Rattle.grid.proofs.Arith.{small, column_of_lem, row_of, inside}
use Rattle.grid.proofs.row.spot.Goals as goal

pub overflow_mul-result : goal.overflow_mul-result
overflow_mul-result c = let o = c.requires.0 in omega (arith, small {a = c.args.row} {b = c.args.w} (omega (arith, o.high64, c.requires.1)) o.wide64)

pub overflow_add-result : goal.overflow_add-result
overflow_add-result c = let o = c.requires.0 in omega (arith, small {a = c.args.row} {b = c.args.w} (omega (arith, o.high64, c.requires.1)) o.wide64, c.requires.2, o.wide64)

pub returns : goal.returns
returns c =
    let s = c.requires in (
      record {
        on = inside s.0 s.2 s.1;
        column = sym (column_of_lem c.args.row s.2);
        row = sym (row_of c.args.row s.2);
      },
      refl,
    )
