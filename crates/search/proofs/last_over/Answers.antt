-- `plot::search::last_over` meets its contract.
-- Assumes nothing.
use mathlib.Core.Path.{refl, sym, ◌∙◌}
use Rattle.plot.proofs.Searching.{last_free, last_loose, over_far, over_shut}
use Rattle.search.proofs.last_over.Goals as goal

pub returns-then-distance-i : goal.returns-then-distance-i
returns-then-distance-i c = sym (over_far _ _ _ _ _ _ (λ e. c.if-distance-i.true (c.distance.ensures ∙ e)))

pub returns-in-Shut : goal.returns-in-Shut
returns-in-Shut c = sym (over_shut _ _ _ _ _ _ (sym c.distance.ensures ∙ c.if-distance-i.false) (sym c.stand_in.ensures ∙ c.in-Shut.is))

pub returns-in-Free : goal.returns-in-Free
returns-in-Free c = sym (last_free _ _ _ _ _ _ (sym c.distance.ensures ∙ c.if-distance-i.false) (sym c.stand_in.ensures ∙ c.in-Free.is) refl)

pub returns-in-Loose : goal.returns-in-Loose
returns-in-Loose c = c.can_end.ensures ∙ sym (last_loose _ _ _ _ _ _ (sym c.distance.ensures
    ∙ c.if-distance-i.false) (sym c.stand_in.ensures ∙ c.in-Loose.is) refl _ c.own.ensures.0)
