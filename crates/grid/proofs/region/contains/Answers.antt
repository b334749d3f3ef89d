-- `region::contains` meets its contract: test by test.
-- Assumes nothing.
use native.Mathlib.Omega.{arith}
use mathlib.Core.Path.{sym, ap, ◌∙◌}
use Prim.Native.Nat.{ℕ, ◌+◌}
use lib.Dec.{ltb}
use Rattle.grid.proofs.Spots.{spot_column, spot_row}
use Rattle.grid.proofs.Regions.{outside_left, outside_right, outside_top, by_bottom}
use Rattle.grid.proofs.region.contains.Goals as goal

pub overflow_add-column : goal.overflow_add-column
overflow_add-column c = omega (arith, spot_column c.requires.0, c.requires.0.on.wide64)

pub overflow_add-row : goal.overflow_add-row
overflow_add-row c = omega (arith, spot_row c.requires.0, c.requires.0.on.high64)

pub returns-then-column-at : goal.returns-then-column-at
returns-then-column-at c =
    let a = c.args in
    let o = c.requires.0 in
    sym (outside_left a.w a.h a.at a.s.hex o.on (omega (arith, o.column)))

pub returns-then-at-column : goal.returns-then-at-column
returns-then-at-column c =
    let a = c.args in
    let o = c.requires.0 in
    sym (outside_right a.w a.h a.at a.s.hex o.on (omega (arith, o.column)) (omega (arith, o.column)))

pub returns-then-row-at : goal.returns-then-row-at
returns-then-row-at c =
    let a = c.args in
    let o = c.requires.0 in
    sym (outside_top a.w a.h a.at a.s.hex o.on (omega (arith, o.column)) (omega (arith, o.column)) (omega (arith, o.row)))

pub returns : goal.returns
returns c =
    let a = c.args in
    let o = c.requires.0 in
    ap (λ (r : ℕ). ltb (r + 8) (a.at.top + a.at.high)) o.row
    ∙ sym (by_bottom a.w a.h a.at a.s.hex o.on (omega (arith, o.column)) (omega (arith, o.column)) (omega (arith, o.row)))
