-- `asking::no_target` meets its contract: no Enemy there, or one that has fought.
-- Assumes nothing.
use Prim.Native.Nat.{ℕ}
use mathlib.Core.Path.{◌∙◌, ap, sym}
use Rattle.position.specs.Board.{board}
use Rattle.field.specs.Scene.{scene}
use Rattle.field.specs.Zone.{holds_enemy}
use Rattle.battle.proofs.Asks.{target_empty, target_held}
use Rattle.attacking.proofs.asking.no_target.Goals as goal

pub returns-then-not-holds_enemy : goal.returns-then-not-holds_enemy
returns-then-not-holds_enemy c = sym (target_empty _ _ ((let a = c.args in
    sym (c.holds_enemy.ensures ∙ ap (λ (f : ℕ). holds_enemy (scene (board a.p.now)) f a.target) c.phasing.ensures.is)) ∙ c.if-not-holds_enemy.true))

pub returns : goal.returns
returns c = c.any_fought.ensures ∙ sym (target_held _ _ ((let a = c.args in
    sym (c.holds_enemy.ensures ∙ ap (λ (f : ℕ). holds_enemy (scene (board a.p.now)) f a.target) c.phasing.ensures.is)) ∙ c.if-not-holds_enemy.false))
