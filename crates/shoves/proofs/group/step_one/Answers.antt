-- `group::step_one` meets its contract: a unit that does not owe there is left alone, one that does goes.
-- Assumes nothing.
use mathlib.Core.Path.{sym, ◌∙◌}
use Rattle.shoves.proofs.Turns.{left_alone}
use Rattle.shoves.proofs.group.step_one.Goals as goal

pub returns-then-not-owes_at : goal.returns-then-not-owes_at
returns-then-not-owes_at c = left_alone _ _ _ (sym c.owes_at.ensures ∙ c.if-not-owes_at.true)
