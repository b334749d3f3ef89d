-- `settle` meets its contract. The invariant: the marks below the index are settled, and the others are as they were.
-- Assumes nothing.
use Prim.Native.Nat.{ℕ}
use mathlib.Core.Path.{◌≡◌, refl, ap, ◌∙◌}
use mathlib.Core.Logic.{inl, inr}
use native.Mathlib.Omega.{arith}
use borrow.Author.Tests.{le-leb, lt-leb}
use lib.Dec.{leb}
use mir.Val.{bool_byte}
use Rattle.walk.specs.Chain.{mark}
use Rattle.walk.specs.Trail.{Done}
use Rattle.walk.proofs.Marks.{le_or}
use Rattle.walk.proofs.Runs.{settle_turn}
use Rattle.walking.proofs.settle.Goals as goal

settled : (m v : ℕ) → v ≡ bool_byte (leb 2 m) → Done m v
settled m v e =
    le_or 2 m (λ l. inl (l, e ∙ ap bool_byte (le-leb 2 m l))) (λ l. inr (l, e ∙ ap bool_byte (lt-leb 2 m l)))

pub loop-m-preserved : goal.loop-m-preserved
unfolding mark
loop-m-preserved c =
    let l = c.loop-m in
    settle_turn c.from.result refl (omega arith) l.invariant (settled (mark l.buf l.m-index) c.from.result c.from.ensures)
