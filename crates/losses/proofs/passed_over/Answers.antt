-- `losses::passed_over` meets its contract: whose units owe, what the list names, and what it spares.
-- Assumes nothing.
use mathlib.Core.Path.{sym, ◌∙◌}
use Rattle.aftermath.proofs.Losing.{passed_other_force, passed_special, passed_special_alone}
use Rattle.losses.proofs.passed_over.Goals as goal

pub returns-then-not-phasing_owes : goal.returns-then-not-phasing_owes
returns-then-not-phasing_owes c = sym (passed_other_force _ _ (sym c.phasing_owes.ensures ∙ c.if-not-phasing_owes.true))

pub returns-then-not-names_other : goal.returns-then-not-names_other
returns-then-not-names_other c = sym (passed_special_alone _ _ (sym c.phasing_owes.ensures ∙ c.if-not-phasing_owes.false) (sym c.names_other.ensures ∙ c.if-not-names_other.true))

pub returns : goal.returns
returns c =
    c.spares_special.ensures
    ∙ sym (passed_special _ _ (sym c.phasing_owes.ensures ∙ c.if-not-phasing_owes.false) (sym c.names_other.ensures ∙ c.if-not-names_other.false))
