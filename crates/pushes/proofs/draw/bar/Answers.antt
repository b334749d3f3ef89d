-- `draw::bar` meets its contract: who can be pushed, and who is off the map, bars no hex.
-- Assumes nothing.
use mathlib.Core.Path.{sym, ◌∙◌}
use native.Mathlib.Omega.{arith}
use Rattle.position.specs.Board.{board}
use Rattle.position.proofs.Sides.{area_view, on_view}
use Rattle.paint.proofs.Adding.{adds_none, adds_as}
use Rattle.pushes.proofs.Drawing.{bars_none, bars_off, bars_here}
use Rattle.pushes.proofs.draw.bar.Goals as goal

pub returns-then-not-firm : goal.returns-then-not-firm
returns-then-not-firm c =
    let a = c.args in
    adds_none (λ k h i. bars_none (board a.p.now) a.f a.u (sym c.firm.ensures ∙ c.if-not-firm.true) k h)

pub returns-then-hexes-h : goal.returns-then-hexes-h
returns-then-hexes-h c =
    let a = c.args in
    adds_none (λ k h i.
    bars_off (board a.p.now) a.f a.u k h
    (λ e. omega (arith, e, c.hex-h.ensures.is, i.on.below, area_view c.requires.0.view)))

pub spot-s-requires : goal.spot-s-requires
spot-s-requires c = on_view c.requires.0 _ (omega arith)

pub returns : goal.returns
returns c =
    let a = c.args in
    adds_as c.stamp.ensures
    (λ k h i.
    bars_here (board a.p.now) a.f a.u (c.spot-s.ensures.1 ∙ c.hex-h.ensures.is)
    (sym c.firm.ensures ∙ c.if-not-firm.false) k h)
