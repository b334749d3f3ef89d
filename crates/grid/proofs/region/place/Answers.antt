-- `region::place` meets its contract: the place is one of the region's, and so no number on the way is large.
-- Assumes nothing.
use native.Mathlib.Omega.{arith}
use Prim.Native.Nat.{◌+◌, ◌-◌}
use Rattle.grid.proofs.Arith.{small}
use Rattle.grid.proofs.Spots.{spot_column, spot_row}
use Rattle.grid.proofs.Regions.{place-in, spot_place}
use Rattle.grid.proofs.region.place.Goals as goal

pub overflow_add-result : goal.overflow_add-result
overflow_add-result c = omega (arith, spot_row c.requires.0, c.requires.0.on.high64)

pub overflow_mul-result : goal.overflow_mul-result
overflow_mul-result c =
    let o = c.requires.0 in
    let k = c.requires.1 in
    let i = c.requires.2 in
    let a = c.args in
    omega (arith, small {a = a.s.row + 8 - a.at.top} {b = a.at.wide} (omega (arith, o.row, i.bottom, k.high)) k.wide)

pub overflow_add-result-2 : goal.overflow_add-result-2
overflow_add-result-2 c = omega (arith, spot_column c.requires.0, c.requires.0.on.wide64)

pub overflow_add-result-3 : goal.overflow_add-result-3
overflow_add-result-3 c =
    let o = c.requires.0 in
    let k = c.requires.1 in
    let i = c.requires.2 in
    let a = c.args in
    omega (
      arith,
      small {a = a.s.row + 8 - a.at.top} {b = a.at.wide} (omega (arith, o.row, i.bottom, k.high)) k.wide,
      o.column,
      i.right,
      k.wide,
    )

pub returns : goal.returns
returns c =
    let e = spot_place c.requires.0 c.args.at in
    (e, omega (arith, e, place-in c.requires.2))
