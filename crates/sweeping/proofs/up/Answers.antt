-- `up` meets its contract. The invariant: what was swept so far.
-- Assumes nothing.
use Rattle.walk.proofs.Joins.{swept_none, swept_trans}
use Rattle.sweeping.proofs.up.Goals as goal

pub loop-row-init : goal.loop-row-init
loop-row-init c = swept_none _

pub loop-row-preserved : goal.loop-row-preserved
loop-row-preserved c = swept_trans c.loop-row.invariant c.pass_up-reached.ensures
