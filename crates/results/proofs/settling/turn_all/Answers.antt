-- `settling::turn_all` meets its contract. The loop's invariant: the units passed are turned over.
-- Assumes nothing.
use mathlib.Core.Path.{refl}
use native.Mathlib.Omega.{arith}
use Rattle.results.proofs.Settles.{turning_more, turning_none}
use Rattle.results.proofs.settling.turn_all.Goals as goal

pub loop-u-init : goal.loop-u-init
loop-u-init c = turning_none c.requires

pub loop-u-preserved : goal.loop-u-preserved
loop-u-preserved c = turning_more c.loop-u.invariant (omega arith) refl c.turn_over.ensures
