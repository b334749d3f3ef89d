-- `passing::reassign_one` meets its contract: a unit with another role stays as it is, one with the role gets the new one.
-- Assumes nothing.
use mathlib.Core.Path.{sym, ◌∙◌}
use Rattle.aftermath.proofs.Stages.{renew_other, renew_own}
use Rattle.passing.proofs.reassign_one.Goals as goal

pub returns-then-role-from : goal.returns-then-role-from
returns-then-role-from c = renew_own _ _ _ _ (sym c.role.ensures.is ∙ c.if-role-from.true) c.assign.ensures

pub returns-else-role-from : goal.returns-else-role-from
returns-else-role-from c = renew_other _ _ _ _ (λ e. c.if-role-from.false (c.role.ensures.is ∙ e))
