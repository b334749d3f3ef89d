-- `losses::destroy_all` meets its contract. The loop's invariant: the units passed are destroyed.
-- Assumes nothing.
use mathlib.Core.Path.{refl}
use native.Mathlib.Omega.{arith}
use Rattle.field.proofs.Making.{making_more, making_none}
use Rattle.losses.proofs.destroy_all.Goals as goal

pub loop-u-init : goal.loop-u-init
loop-u-init c = making_none c.requires

pub loop-u-preserved : goal.loop-u-preserved
loop-u-preserved c = making_more c.loop-u.invariant (omega arith) refl c.destroy.ensures
