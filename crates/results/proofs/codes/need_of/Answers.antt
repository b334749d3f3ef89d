-- `codes::need_of` meets its contract: no exchange, the attackers destroyed, the defenders destroyed.
-- Assumes nothing.
use mathlib.Core.Path.{sym}
use Rattle.results.proofs.Upshots.{need_attackers, need_defenders, need_none}
use Rattle.results.proofs.codes.need_of.Goals as goal

pub returns-then-stage-ne-LOSSES : goal.returns-then-stage-ne-LOSSES
returns-then-stage-ne-LOSSES c = sym (need_none _ _ _ c.if-stage-ne-LOSSES.true)

pub returns-then-attackers-eq-LOST : goal.returns-then-attackers-eq-LOST
returns-then-attackers-eq-LOST c = sym (need_attackers _ _ _ c.if-stage-ne-LOSSES.false c.if-attackers-eq-LOST.true)

pub returns : goal.returns
returns c = sym (need_defenders _ _ _ c.if-stage-ne-LOSSES.false c.if-attackers-eq-LOST.false)
