-- `ground::standable` meets its contract.
-- Assumes nothing.
use Prim.Native.Nat.{ℕ}
use mathlib.Core.Path.{sym, ap, ◌∙◌}
use mathlib.Core.Bool.{not}
use native.Mathlib.Omega.{arith}
use lib.Dec.{eqb}
use Rattle.position.specs.Board.{board}
use Rattle.position.specs.Layout.{cost}
use Rattle.position.proofs.Sides.{standable_off, standable_sea, standable_land}
use Rattle.ground.proofs.standable.Goals as goal

pub returns-then-hexes-h : goal.returns-then-hexes-h
returns-then-hexes-h c = let a = c.args in sym (standable_off (board a.p.now) a.h (omega arith))

pub returns-then-surface-gt1 : goal.returns-then-surface-gt1
returns-then-surface-gt1 c = let a = c.args in sym (standable_sea (board a.p.now) a.h (omega arith))

pub returns : goal.returns
returns c =
    let a = c.args in
    let e = c.cost.ensures.is ∙ ap (cost a.p.now) c.terrain-t.ensures.is in
    ap (λ (x : ℕ). not (eqb x 0)) e ∙ sym (standable_land (board a.p.now) a.h (omega arith) (omega arith))
