-- `leave` meets its contract: the mark of a hex that was not left has room for the 7, and names the direction home.
-- Assumes nothing.
use mathlib.Core.Path.{refl}
use native.Mathlib.Omega.{arith}
use Rattle.walk.specs.Chain.{mark}
use Rattle.walking.proofs.step.leave.Goals as goal

pub overflow_add-buf : goal.overflow_add-buf
unfolding mark
overflow_add-buf c = omega (arith, c.requires.1.still, c.slice_known-2-1.given c.args.s.hex)

pub overflow_sub-m : goal.overflow_sub-m
unfolding mark
overflow_sub-m c = omega (arith, c.requires.1.entered)

pub overflow_cast-m : goal.overflow_cast-m
unfolding mark
overflow_cast-m c = omega (arith, c.slice_known-2-1.given c.args.s.hex)

pub returns : goal.returns
unfolding mark
returns c = record { home_of = c.home.ensures; buf_after = refl }
