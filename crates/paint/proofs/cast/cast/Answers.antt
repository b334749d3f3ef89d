-- `cast::cast` meets its contract: the zone of a unit that casts one, and nothing else.
-- Assumes nothing.
use mathlib.Core.Path.{sym, ◌∙◌}
use Rattle.position.specs.Board.{board}
use Rattle.field.specs.Scene.{scene}
use Rattle.paint.specs.Paint.{in_zone}
use Rattle.paint.proofs.Adding.{adds_none, adds_as}
use Rattle.paint.proofs.Units.{shown_no_cast, part_none, part_reaches}
use Rattle.paint.proofs.cast.cast.Goals as goal

pub returns-then-casts_against : goal.returns-then-casts_against
returns-then-casts_against c =
    let a = c.args in
    let b = board a.p.now in
    adds_as c.around.ensures (λ k h i. part_reaches (scene b) a.f a.u c.requires.2.here (sym c.casts_against.ensures ∙ c.if-casts_against.true) k h)

pub returns-else-casts_against : goal.returns-else-casts_against
returns-else-casts_against c =
    let a = c.args in
    let b = board a.p.now in
    adds_none (λ k h i. part_none (scene b) a.f a.u in_zone (shown_no_cast (scene b) a.f a.u (sym c.casts_against.ensures ∙ c.if-casts_against.false)) k h)
