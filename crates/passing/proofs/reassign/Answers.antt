-- `passing::reassign` meets its contract. The loop's invariant: the units passed have their new roles, the others are as they were.
--
-- Assumes nothing.
use native.Mathlib.Omega.{arith}
use Rattle.aftermath.proofs.Stages.{renewing_all, renewing_more, renewing_none}
use Rattle.passing.proofs.reassign.Goals as goal

pub loop-u-init : goal.loop-u-init
loop-u-init c = renewing_none c.requires.0

pub loop-u-preserved : goal.loop-u-preserved
loop-u-preserved c = renewing_more c.loop-u.invariant (omega arith) c.reassign_one.ensures

pub returns : goal.returns
returns c = renewing_all c.loop-u.invariant (omega arith) c.requires.0.view.count
