-- `clear::move_stack` meets its contract. The loop's invariant: the units passed that stood there have gone, the others are as they were.
-- Assumes nothing.
use native.Mathlib.Omega.{arith}
use mathlib.Core.Path.{refl}
use Rattle.shoves.specs.Group.{stack}
use Rattle.shoves.specs.Shoves.{stack_to}
use Rattle.shoves.proofs.Sweeps.{alike_standing, own_shifts, sweep_all, sweep_more, sweep_none}
use Rattle.shoves.proofs.clear.move_stack.Goals as goal

pub loop-u-init : goal.loop-u-init
loop-u-init c = sweep_none c.requires

pub loop-u-preserved : goal.loop-u-preserved
loop-u-preserved c =
    sweep_more (alike_standing _) (own_shifts _) c.loop-u.invariant (omega arith) _ refl c.move_one.ensures

pub returns : goal.returns
unfolding stack stack_to
returns c = sweep_all c.loop-u.invariant (omega arith) c.requires.view.count
