-- `advance::shut` meets its contract: the hex is asked for an Enemy, and then for a neutral force.
-- Assumes nothing.
use Prim.Native.Nat.{ℕ}
use mathlib.Core.Path.{sym, ap, ◌∙◌}
use Rattle.position.specs.Board.{board}
use Rattle.field.specs.Scene.{scene}
use Rattle.field.specs.Zone.{holds_enemy, holds_neutral}
use Rattle.aftermath.specs.Advance.{shut}
use Rattle.advance.proofs.shut.Goals as goal

pub returns-then-holds_enemy : goal.returns-then-holds_enemy
unfolding shut
returns-then-holds_enemy c = simp ((let a = c.args in
    sym (c.holds_enemy.ensures ∙ ap (λ (f : ℕ). holds_enemy (scene (board a.p.now)) f a.h) c.force_of-f.ensures)) ∙ c.if-holds_enemy.true)

pub returns : goal.returns
unfolding shut
returns c =
    let a = c.args in
    c.holds_neutral.ensures
    ∙ ap (λ (f : ℕ). holds_neutral (scene (board a.p.now)) f a.h) c.force_of-f.ensures
    ∙ simp ((let a = c.args in
    sym (c.holds_enemy.ensures ∙ ap (λ (f : ℕ). holds_enemy (scene (board a.p.now)) f a.h) c.force_of-f.ensures)) ∙ c.if-holds_enemy.false)
