-- `going::fall_all` meets its contract. The loop's invariant: the units passed that owed there are destroyed, the others are as they were.
-- Assumes nothing.
use mathlib.Core.Path.{◌∙◌, ap, refl}
use native.Mathlib.Omega.{arith}
use Rattle.position.specs.Change.{makes}
use Rattle.shoves.proofs.Sweeps.{alike_owing, sweep_all, sweep_more, sweep_none}
use Rattle.shoves.specs.Group.{group}
use Rattle.retreat.proofs.Leaving.{gather_falls, own_falls}
use Rattle.going.proofs.fall_all.Goals as goal

pub loop-u-init : goal.loop-u-init
loop-u-init c = sweep_none c.requires

pub loop-u-preserved : goal.loop-u-preserved
loop-u-preserved c =
    sweep_more (alike_owing _) own_falls c.loop-u.invariant (omega arith) _ refl c.fall_one.ensures

pub returns : goal.returns
unfolding group
returns c =
    sweep_all c.loop-u.invariant (omega arith) c.requires.view.count ∙ ap (makes c.args.p.now) (gather_falls _)
