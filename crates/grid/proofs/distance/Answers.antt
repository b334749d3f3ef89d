-- `grid::distance` meets its contract: rows and columns are small, so each sum fits, and the branch takes the larger of two.
-- Assumes nothing.
use native.Mathlib.Omega.{arith}
use Rattle.grid.specs.Walk.{far, distance_of}
use Rattle.grid.proofs.Arith.{row, column}
use Rattle.grid.proofs.distance.Goals as goal

pub overflow_mul-a : goal.overflow_mul-a
overflow_mul-a c = omega (arith, row c.requires.on)

pub overflow_add-a : goal.overflow_add-a
overflow_add-a c = omega (arith, row c.requires.on)

pub overflow_mul-b : goal.overflow_mul-b
overflow_mul-b c = omega (arith, row c.requires.on_2)

pub overflow_add-b : goal.overflow_add-b
overflow_add-b c = omega (arith, row c.requires.on_2)

pub overflow_add-result : goal.overflow_add-result
overflow_add-result c =
    let p = c.requires in
    omega (arith, row p.on, row p.on_2, column p.on, column p.on_2, c.gap-x.ensures, c.gap-y.ensures)

pub returns-then-x-y : goal.returns-then-x-y
unfolding far distance_of
returns-then-x-y c = rw (← c.gap-x.ensures, ← c.gap-y.ensures) (omega arith)

pub returns : goal.returns
unfolding far distance_of
returns c = rw (← c.gap-x.ensures, ← c.gap-y.ensures) (omega arith)
