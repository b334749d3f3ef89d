-- `advance::can_follow` meets its contract: where the route starts is asked first, then whether it leads to the hex.
-- Assumes nothing.
use mathlib.Core.Path.{ap₂, sym, ◌∙◌}
use Rattle.position.specs.Board.{board}
use Rattle.position.specs.Ground.{joined}
use Rattle.aftermath.proofs.Advancing.{follow_apart, follow_beside}
use Rattle.advance.proofs.can_follow.Goals as goal

pub returns-then-not-joined : goal.returns-then-not-joined
returns-then-not-joined c = sym (follow_apart _ _ _ _ ((let a = c.args in
    sym (c.joined.ensures
    ∙ ap₂ (joined (board a.p.now).map) c.hex.ensures.is c.route.ensures.is)) ∙ c.if-not-joined.true))

pub returns : goal.returns
returns c = c.leads_to.ensures ∙ sym (follow_beside _ _ _ _ ((let a = c.args in
    sym (c.joined.ensures
    ∙ ap₂ (joined (board a.p.now).map) c.hex.ensures.is c.route.ensures.is)) ∙ c.if-not-joined.false))
