-- `rim::after` meets its contract: the tests say which hex comes next.
-- Assumes nothing.
use native.Mathlib.Omega.{arith}
use Rattle.grid.proofs.Rims.{rim_small, next_top, next_bottom, next_right}
use Rattle.grid.proofs.rim.after.Goals as goal

pub overflow_add-next : goal.overflow_add-next
overflow_add-next c = omega (arith, rim_small c.requires)

pub returns-then-next-w : goal.returns-then-next-w
returns-then-next-w c = next_top c.requires c.if-next-w.true

pub overflow_mul-w : goal.overflow_mul-w
overflow_mul-w c = omega (arith, rim_small c.requires)

pub overflow_add-next-2 : goal.overflow_add-next-2
overflow_add-next-2 c = omega (arith, rim_small c.requires)

pub returns-then-w-h : goal.returns-then-w-h
returns-then-w-h c = next_bottom c.requires c.if-w-h.true

pub overflow_add-result : goal.overflow_add-result
overflow_add-result c = omega (arith, rim_small c.requires)

pub returns : goal.returns
returns c = next_right c.requires c.if-next-w.false c.if-w-h.false
