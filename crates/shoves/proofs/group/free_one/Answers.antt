-- `group::free_one` meets its contract: a unit that does not owe there is left alone, one that does has no role any more.
-- Assumes nothing.
use mathlib.Core.Path.{sym, ◌∙◌}
use Rattle.shoves.proofs.Turns.{dealt_with, frees_it, left_alone}
use Rattle.shoves.proofs.group.free_one.Goals as goal

pub returns-then-not-owes_at : goal.returns-then-not-owes_at
returns-then-not-owes_at c = left_alone _ _ _ (sym c.owes_at.ensures ∙ c.if-not-owes_at.true)

pub returns : goal.returns
returns c =
    dealt_with _ _ _ (sym c.owes_at.ensures ∙ c.if-not-owes_at.false) (frees_it _ _ c.assign.ensures)
