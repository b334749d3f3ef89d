-- `group::step_all` meets its contract. The loop's invariant: the units passed that owed there have gone, the others are as they were.
-- Assumes nothing.
use native.Mathlib.Omega.{arith}
use Rattle.shoves.specs.Group.{group}
use Rattle.shoves.specs.Shoves.{group_to}
use Rattle.shoves.proofs.Sweeps.{alike_owing, own_goes, sweep_all, sweep_more, sweep_none}
use Rattle.shoves.proofs.Turns.{goes_same}
use Rattle.shoves.proofs.group.step_all.Goals as goal

pub loop-u-init : goal.loop-u-init
loop-u-init c = sweep_none c.requires

pub loop-u-preserved : goal.loop-u-preserved
loop-u-preserved c =
    let e = goes_same _ _ _ _ c.loop-u.invariant.kinds in
    sweep_more (alike_owing _) (own_goes _ _) c.loop-u.invariant (omega arith) _ e c.step_one.ensures

pub returns : goal.returns
unfolding group group_to
returns c = sweep_all c.loop-u.invariant (omega arith) c.requires.view.count
