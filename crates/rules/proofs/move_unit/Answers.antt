-- `rules::move_unit` meets its promise: refusal 1, or on a checked position that of the call it forwards to.
-- Assumes nothing.
use Rattle.ruling.proofs.Checks.{checked, unchecked, whole}
use Rattle.rules.specs.Order.{rule_of}
use Rattle.rules.proofs.move_unit.Goals as goal

pub returns-in_default : goal.returns-in_default
returns-in_default c = unchecked _ c.check.ensures c.in_default.is

pub move_unit-requires : goal.move_unit-requires
move_unit-requires c = (whole c.check.ensures c.in-Some.is).1

pub returns : goal.returns
unfolding rule_of
returns c = checked (whole c.check.ensures c.in-Some.is).0 c.move_unit.ensures
