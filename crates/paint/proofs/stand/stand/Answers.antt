-- `stand::stand` meets its contract: one mark after the other.
-- Assumes nothing.
use Rattle.position.specs.Board.{board}
use Rattle.field.specs.Scene.{scene}
use Rattle.paint.specs.Paint.{by_any}
use Rattle.paint.proofs.Adding.{adds_as, adds_also}
use Rattle.paint.proofs.Units.{shown_any, part_only, stands_parts}
use Rattle.paint.proofs.stand.stand.Goals as goal

pub returns : goal.returns
returns c =
    let a = c.args in
    let b = board a.p.now in
    let held = adds_as c.stamp.ensures (λ k h i. part_only (scene b) a.f a.u by_any c.requires.2.here (shown_any (scene b) a.f a.u) k h) in
    adds_as (adds_also (adds_also (adds_also held c.enemy.ensures) c.own.ensures) c.depot.ensures) (λ k h i. stands_parts (scene b) a.f a.u k h)
