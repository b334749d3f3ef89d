-- `stand::enemy` meets its contract: the mark is set where the unit stands, if it is Enemy.
-- Assumes nothing.
use Rattle.position.specs.Board.{board}
use Rattle.field.specs.Scene.{scene}
use Rattle.paint.specs.Paint.{by_enemy}
use Rattle.paint.proofs.Adding.{adds_none, adds_as}
use Rattle.paint.proofs.Units.{enemy_told, shown_enemy, shown_friend, part_none, part_only}
use Rattle.paint.proofs.stand.enemy.Goals as goal

pub returns-then-enemy : goal.returns-then-enemy
returns-then-enemy c =
    let a = c.args in
    let b = board a.p.now in
    let e = enemy_told b a.f a.u c.force_of.ensures c.enemy.ensures c.if-enemy.true in
    adds_as c.stamp.ensures (λ k h i. part_only (scene b) a.f a.u by_enemy c.requires.2.here (shown_enemy (scene b) a.f a.u e) k h)

pub returns-else-enemy : goal.returns-else-enemy
returns-else-enemy c =
    let a = c.args in
    let b = board a.p.now in
    let e = enemy_told b a.f a.u c.force_of.ensures c.enemy.ensures c.if-enemy.false in
    adds_none (λ k h i. part_none (scene b) a.f a.u by_enemy (shown_friend (scene b) a.f a.u e) k h)
