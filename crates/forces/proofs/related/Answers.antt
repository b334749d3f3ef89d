-- `forces::related` meets its contract: each relation has its function.
-- Assumes nothing.
use mathlib.Core.Path.{sym, ap, ◌∙◌}
use Rattle.position.specs.declared.Relation.{Relation}
use Rattle.position.specs.Board.{board, relates}
use Rattle.forces.proofs.related.Goals as goal

pub returns-in-Enemy : goal.returns-in-Enemy
returns-in-Enemy c =
    let a = c.args in
    c.enemy.ensures ∙ ap (λ (w : Relation). relates (board a.p.now) w a.f a.g) (sym c.in-Enemy.is)

pub returns-in-Neutral : goal.returns-in-Neutral
returns-in-Neutral c =
    let a = c.args in
    c.neutral.ensures ∙ ap (λ (w : Relation). relates (board a.p.now) w a.f a.g) (sym c.in-Neutral.is)
