-- `stepping::side_cost` meets its contract: a river, a major river, or nothing.
-- Assumes nothing.
use mathlib.Core.Path.{sym, ◌∙◌}
use native.Mathlib.Omega.{arith}
use Rattle.march.proofs.Steps.{cost_river, cost_major, cost_none}
use Rattle.stepping.proofs.side_cost.Goals as goal

pub returns-then-s-eq-RIVER : goal.returns-then-s-eq-RIVER
returns-then-s-eq-RIVER c =
    record { is = c.cost.ensures.is ∙ sym (cost_river _ _ c.if-s-eq-RIVER.true); small = c.cost.ensures.small }

pub returns-then-s-eq-MAJOR_RIVER : goal.returns-then-s-eq-MAJOR_RIVER
returns-then-s-eq-MAJOR_RIVER c =
    record { is = c.cost-then-s-eq-MAJOR_RIVER.ensures.is ∙ sym (cost_major _ _ c.if-s-eq-MAJOR_RIVER.true); small = c.cost-then-s-eq-MAJOR_RIVER.ensures.small }

pub returns : goal.returns
returns c = record { is = sym (cost_none _ _ c.if-s-eq-RIVER.false c.if-s-eq-MAJOR_RIVER.false); small = omega arith }
