-- `eastward` meets its contract. The invariant: what was swept so far.
-- Assumes nothing.
use Rattle.walk.proofs.Joins.{swept_none, swept_trans}
use Rattle.sweeping.proofs.eastward.Goals as goal

pub loop-c-init : goal.loop-c-init
loop-c-init c = swept_none _

pub loop-c-preserved : goal.loop-c-preserved
loop-c-preserved c = swept_trans c.loop-c.invariant c.join_west.ensures
