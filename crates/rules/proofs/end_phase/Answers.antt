-- `rules::end_phase` meets its promise: refusal 1, or on a checked position that of the call it forwards to.
-- Assumes nothing.
use Rattle.ruling.proofs.Checks.{checked, unchecked, whole}
use Rattle.rules.specs.Order.{rule_of}
use Rattle.rules.proofs.end_phase.Goals as goal

pub returns-in_default : goal.returns-in_default
returns-in_default c = unchecked _ c.check.ensures c.in_default.is

pub end_phase-requires : goal.end_phase-requires
end_phase-requires c = let w = whole c.check.ensures c.in-Some.is in (w.1, w.0)

pub returns : goal.returns
unfolding rule_of
returns c = checked (whole c.check.ensures c.in-Some.is).0 c.end_phase.ensures
