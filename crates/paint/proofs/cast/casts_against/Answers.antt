-- `cast::casts_against` meets its contract, test by test.
-- Assumes nothing.
use mathlib.Core.Path.{sym, ap, ◌∙◌}
use native.Mathlib.Omega.{arith}
use Rattle.position.specs.Board.{board}
use Rattle.field.specs.Scene.{scene}
use Rattle.position.specs.Kind.{casts_zone}
use Rattle.field.proofs.Zones.{force_in_lem}
use Rattle.paint.proofs.Units.{enemy_told}
use Rattle.paint.proofs.Casting.{casts_force, casts_friend, casts_enemy}
use Rattle.paint.proofs.cast.casts_against.Goals as goal

pub returns-then-g-ge-FORCES : goal.returns-then-g-ge-FORCES
returns-then-g-ge-FORCES c =
    let a = c.args in
    let b = board a.p.now in
    sym (casts_force (scene b) a.f a.u (omega (arith, force_in_lem b a.u, c.force_of-g.ensures)))

pub returns-then-enemy : goal.returns-then-enemy
returns-then-enemy c =
    let a = c.args in
    let b = board a.p.now in
    let e = enemy_told b a.f a.u c.force_of-g.ensures c.enemy.ensures c.if-enemy.true in
    c.casts_zone.ensures ∙ ap casts_zone c.kind.ensures.is ∙ sym (casts_enemy (scene b) a.f a.u (omega (arith, force_in_lem b a.u, c.force_of-g.ensures)) e)

pub returns : goal.returns
returns c =
    let a = c.args in
    let b = board a.p.now in
    sym (casts_friend (scene b) a.f a.u (enemy_told b a.f a.u c.force_of-g.ensures c.enemy.ensures c.if-enemy.false))
