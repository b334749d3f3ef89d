-- `going::leave_one` meets its contract: a unit that does not owe there stays as it is, one that does leaves.
-- Assumes nothing.
use mathlib.Core.Path.{sym, ◌∙◌}
use Rattle.shoves.proofs.Turns.{left_alone}
use Rattle.going.proofs.leave_one.Goals as goal

pub returns-then-not-owes_at : goal.returns-then-not-owes_at
returns-then-not-owes_at c = left_alone _ _ _ (sym c.owes_at.ensures ∙ c.if-not-owes_at.true)
