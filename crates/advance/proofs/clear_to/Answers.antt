-- `advance::clear_to` meets its contract: the number is asked first, then who stands on the way to it.
-- Assumes nothing.
use mathlib.Core.Bool.{not}
use mathlib.Core.Path.{ap, sym, ◌∙◌}
use Rattle.aftermath.proofs.Advancing.{clear_other, clear_there}
use Rattle.advance.proofs.clear_to.Goals as goal

pub returns-then-route-hex : goal.returns-then-route-hex
returns-then-route-hex c = sym (clear_other _ _ _ _ _ (λ e. c.if-route-hex.true (c.route.ensures.is ∙ e)))

pub returns : goal.returns
returns c =
    ap not c.held_along.ensures
    ∙ sym (clear_there _ _ _ _ _ (sym c.route.ensures.is ∙ c.if-route-hex.false))
