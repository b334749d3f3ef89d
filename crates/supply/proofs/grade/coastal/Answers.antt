-- `grade::coastal` meets its contract: it reads the surface.
-- Assumes nothing.
use Prim.Native.Nat.{ℕ}
use mathlib.Core.Path.{sym, ap, ◌∙◌}
use lib.Dec.{eqb}
use Rattle.position.specs.Board.{board}
use Rattle.field.specs.Scene.{scene}
use Rattle.supply.proofs.Grading.{coastal_is}
use Rattle.supply.proofs.grade.coastal.Goals as goal

pub returns : goal.returns
returns c =
    let a = c.args in
    let s = scene (board a.p.now) in
    ap (λ (n : ℕ). eqb n 1) c.surface.ensures.is ∙ sym (coastal_is s a.h)
