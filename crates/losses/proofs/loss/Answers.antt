-- `losses::loss` meets its contract: the role is asked first, then whether the unit was named before.
-- Assumes nothing.
use mathlib.Core.Path.{sym, ◌∙◌}
use Rattle.aftermath.proofs.Losing.{passes_loss, stops_named, stops_role}
use Rattle.losses.proofs.loss.Goals as goal

pub returns-then-not-owes : goal.returns-then-not-owes
returns-then-not-owes c = stops_role _ _ _ _ _ (sym c.owes.ensures ∙ c.if-not-owes.true)

pub returns-then-named : goal.returns-then-named
returns-then-named c = stops_named _ _ _ _ _ (sym c.owes.ensures ∙ c.if-not-owes.false) (sym c.named.ensures ∙ c.if-named.true)

pub returns : goal.returns
returns c = passes_loss _ _ _ _ _ (sym c.owes.ensures ∙ c.if-not-owes.false) (sym c.named.ensures ∙ c.if-named.false)
