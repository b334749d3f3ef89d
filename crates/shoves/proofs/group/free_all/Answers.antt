-- `group::free_all` meets its contract. The loop's invariant: the units passed that owed there have no role any more, the others are as
-- they were.
-- Assumes nothing.
use native.Mathlib.Omega.{arith}
use mathlib.Core.Path.{refl}
use Rattle.shoves.specs.Group.{group}
use Rattle.shoves.proofs.Sweeps.{alike_owing, own_frees, sweep_all, sweep_more, sweep_none}
use Rattle.shoves.proofs.group.free_all.Goals as goal

pub loop-u-init : goal.loop-u-init
loop-u-init c = sweep_none c.requires

pub loop-u-preserved : goal.loop-u-preserved
loop-u-preserved c =
    sweep_more (alike_owing _) own_frees c.loop-u.invariant (omega arith) _ refl c.free_one.ensures

pub returns : goal.returns
unfolding group
returns c = sweep_all c.loop-u.invariant (omega arith) c.requires.view.count
