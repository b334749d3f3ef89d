-- `forces::enemy` meets its contract.
-- Assumes nothing.
use Prim.Native.Nat.{ℕ}
use mathlib.Core.Path.{ap₂}
use mathlib.Core.Bool.{not}
use lib.Dec.{eqb}
use Rattle.position.specs.Board.{enemy}
use Rattle.forces.proofs.enemy.Goals as goal

pub returns : goal.returns
unfolding enemy
returns c = ap₂ (λ (x y : ℕ). not (eqb x y)) c.player.ensures c.player-2.ensures
