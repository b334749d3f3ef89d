-- `asking::not_beside` meets its contract: it is the contrary of being joined.
-- Assumes nothing.
use Prim.Native.Nat.{ℕ}
use mathlib.Core.Bool.{not}
use mathlib.Core.Path.{◌∙◌, ap}
use Rattle.position.specs.Board.{ground}
use Rattle.position.specs.Ground.{joined}
use Rattle.battle.specs.Attack.{not_beside}
use Rattle.attacking.proofs.asking.not_beside.Goals as goal

pub returns : goal.returns
unfolding not_beside
returns c =
    let a = c.args in
    ap not (c.joined.ensures ∙ ap (λ (h : ℕ). joined (ground a.p.now) h a.target) c.hex.ensures.is)
