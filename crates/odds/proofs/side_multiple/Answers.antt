-- `odds::side_multiple` meets its contract: a river, a major river, and any other side.
-- Assumes nothing.
use mathlib.Core.Path.{◌∙◌, sym}
use native.Mathlib.Omega.{arith}
use Rattle.grid.proofs.Arith.{small}
use Rattle.odds.proofs.Columns.{multiple_major, multiple_none, multiple_river}
use Rattle.odds.proofs.side_multiple.Goals as goal

pub returns-then-s-eq-RIVER : goal.returns-then-s-eq-RIVER
returns-then-s-eq-RIVER c = record { is = c.multiple.ensures.is ∙ sym (multiple_river _ _ c.if-s-eq-RIVER.true); small = c.multiple.ensures.small }

pub returns-then-s-eq-MAJOR_RIVER : goal.returns-then-s-eq-MAJOR_RIVER
returns-then-s-eq-MAJOR_RIVER c = record { is = c.multiple-then-s-eq-MAJOR_RIVER.ensures.is ∙ sym (multiple_major _ _ c.if-s-eq-MAJOR_RIVER.true); small = c.multiple-then-s-eq-MAJOR_RIVER.ensures.small }

pub returns : goal.returns
returns c = record { is = sym (multiple_none _ _ c.if-s-eq-RIVER.false c.if-s-eq-MAJOR_RIVER.false); small = omega arith }
