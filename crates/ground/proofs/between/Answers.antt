-- `ground::between` meets its contract: the hex that keeps the side is asked for it.
-- Assumes nothing.
use mathlib.Core.Path.{ap, ◌∙◌}
use Prim.Native.Nat.{ℕ, ◌%◌}
use Rattle.position.specs.Board.{ground}
use Rattle.position.specs.Ground.{stored}
use Rattle.position.proofs.Sides.{side_kept}
use Rattle.ground.proofs.between.Goals as goal

pub returns : goal.returns
returns c =
    let a = c.args in
    let m = ground a.p.now in
    record {
      is =
          c.stored.ensures.is
          ∙ ap (λ (x : ℕ). stored m x (a.d % 3)) c.keeper.ensures
          ∙ side_kept m a.h a.d a.n c.requires.1 c.requires.2;
      small = c.stored.ensures.small;
    }
