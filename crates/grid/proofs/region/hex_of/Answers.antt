-- `region::hex_of` meets its contract: a place beyond the map's edges has no hex, and any other that of its column and row.
-- Assumes nothing.
use native.Mathlib.Omega.{arith}
use Prim.Native.Nat.{◌+◌, ◌-◌, ◌/◌, ◌<◌}
use native.Mathlib.Nat.{mod-lt, mul_comm, div-lt_iff_lt-mul}
use Rattle.grid.proofs.Arith.{small, column, row}
use Rattle.grid.proofs.Regions.{positive, placed, hex_there}
use Rattle.grid.proofs.region.hex_of.Goals as goal

pub nonzero_rem-column : goal.nonzero_rem-column
nonzero_rem-column c = let a = c.args in positive a.i a.at.wide a.at.high c.requires.2

pub overflow_add-column : goal.overflow_add-column
overflow_add-column c =
    let a = c.args in
    omega (arith, mod-lt a.i (positive a.i a.at.wide a.at.high c.requires.2), c.requires.1.wide)

pub nonzero_div-row : goal.nonzero_div-row
nonzero_div-row c = let a = c.args in positive a.i a.at.wide a.at.high c.requires.2

pub overflow_add-row : goal.overflow_add-row
overflow_add-row c =
    let a = c.args in
    let n = positive a.i a.at.wide a.at.high c.requires.2 in
    let l = c.requires.2 in
    let k : a.i / a.at.wide < a.at.high = (div-lt_iff_lt-mul n).1 (omega (arith, l, mul_comm a.at.wide a.at.high)) in
    omega (arith, k, c.requires.1.high)

pub returns-then-column-lt-MARGIN : goal.returns-then-column-lt-MARGIN
returns-then-column-lt-MARGIN c = λ x i e. omega (arith, placed i e)

pub returns-then-w-column : goal.returns-then-w-column
returns-then-w-column c = λ x i e. omega (arith, placed i e, column i.on)

pub returns-then-row-lt-MARGIN : goal.returns-then-row-lt-MARGIN
returns-then-row-lt-MARGIN c = λ x i e. omega (arith, placed i e)

pub returns-then-h-row : goal.returns-then-h-row
returns-then-h-row c = λ x i e. omega (arith, placed i e, row i.on)

pub overflow_mul-result : goal.overflow_mul-result
overflow_mul-result c =
    let a = c.args in
    let o = c.requires.0 in
    omega (arith, small {a = a.i / a.at.wide + a.at.top - 8} {b = a.w} (omega (arith, o.high64)) o.wide64)

pub overflow_add-result : goal.overflow_add-result
overflow_add-result c =
    let a = c.args in
    let o = c.requires.0 in
    omega (arith, small {a = a.i / a.at.wide + a.at.top - 8} {b = a.w} (omega (arith, o.high64)) o.wide64, o.wide64)

pub returns : goal.returns
returns c =
    hex_there c.requires.0 c.requires.2 (omega arith) (omega arith) (omega arith) (omega arith)
