-- `paint_units` meets its contract. The loop's invariant: what the units below u show is marked.
-- Assumes nothing.
use Rattle.position.specs.Board.{board}
use Rattle.field.specs.Scene.{scene}
use Rattle.paint.proofs.Adding.{adds_none, adds_as, adds_also}
use Rattle.paint.proofs.Units.{below_none, below_step}
use Rattle.paint.proofs.paint_units.Goals as goal

pub loop-u-init : goal.loop-u-init
loop-u-init c =
    let a = c.args in
    let b = board a.p.now in
    adds_none (λ k h i. below_none (scene b) a.f k h)

pub loop-u-preserved : goal.loop-u-preserved
loop-u-preserved c =
    let a = c.args in
    let b = board a.p.now in
    adds_as (adds_also c.loop-u.invariant c.paint_unit.ensures) (λ k h i. below_step (scene b) a.f c.loop-u.u k h)
