-- `losses::short` meets its contract: the total is asked first, then special infantry.
-- Assumes nothing.
use mathlib.Core.Path.{sym, ◌∙◌}
use Rattle.aftermath.proofs.Losing.{short_need, short_special}
use Rattle.losses.proofs.short.Goals as goal

pub returns-then-not-enough : goal.returns-then-not-enough
returns-then-not-enough c = sym (short_need _ _ (sym c.enough.ensures ∙ c.if-not-enough.true))

pub returns : goal.returns
returns c = c.passed_over.ensures ∙ sym (short_special _ _ (sym c.enough.ensures ∙ c.if-not-enough.false))
