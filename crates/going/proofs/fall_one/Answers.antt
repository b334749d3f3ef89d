-- `going::fall_one` meets its contract: a unit that does not owe there stays as it is, one that does is destroyed.
-- Assumes nothing.
use mathlib.Core.Path.{sym, ◌∙◌}
use Rattle.shoves.proofs.Turns.{dealt_with, left_alone}
use Rattle.retreat.proofs.Leaving.{falls_made}
use Rattle.going.proofs.fall_one.Goals as goal

pub returns-then-not-owes_at : goal.returns-then-not-owes_at
returns-then-not-owes_at c = left_alone _ _ _ (sym c.owes_at.ensures ∙ c.if-not-owes_at.true)

pub returns : goal.returns
returns c =
    dealt_with _ _ _ (sym c.owes_at.ensures ∙ c.if-not-owes_at.false)
    (falls_made _ _ c.destroy.ensures)
