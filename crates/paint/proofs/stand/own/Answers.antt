-- `stand::own` meets its contract: the mark is set where the unit stands, if it is of the force.
-- Assumes nothing.
use Rattle.position.specs.Board.{board}
use Rattle.field.specs.Scene.{scene}
use native.Mathlib.Omega.{arith}
use Rattle.field.proofs.Zones.{force_in_lem}
use Rattle.paint.specs.Paint.{by_own}
use Rattle.paint.proofs.Adding.{adds_none, adds_as}
use Rattle.paint.proofs.Units.{shown_own, shown_other, part_none, part_only}
use Rattle.paint.proofs.stand.own.Goals as goal

pub returns-then-force_of-f : goal.returns-then-force_of-f
returns-then-force_of-f c =
    let a = c.args in
    let b = board a.p.now in
    let q = force_in_lem b a.u in
    adds_as c.stamp.ensures (λ k h i. part_only (scene b) a.f a.u by_own c.requires.2.here (shown_own (scene b) a.f a.u (omega (arith, q, c.force_of.ensures))) k h)

pub returns-else-force_of-f : goal.returns-else-force_of-f
returns-else-force_of-f c =
    let a = c.args in
    let b = board a.p.now in
    let q = force_in_lem b a.u in
    adds_none (λ k h i. part_none (scene b) a.f a.u by_own (shown_other (scene b) a.f a.u (λ e. omega (arith, q, c.force_of.ensures, e))) k h)
