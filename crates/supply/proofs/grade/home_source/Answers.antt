-- `grade::home_source` meets its contract: the country decides for a supply hex, and no other is one.
-- Assumes nothing.
use Prim.Native.Nat.{ℕ}
use mathlib.Core.Path.{sym, ap, ◌∙◌}
use lib.Dec.{eqb}
use Rattle.position.specs.Board.{board}
use Rattle.position.specs.Bits.{has}
use Rattle.field.specs.Scene.{scene}
use Rattle.supply.proofs.Grading.{home_yes, home_no}
use Rattle.supply.proofs.grade.home_source.Goals as goal

pub returns-then-has : goal.returns-then-has
returns-then-has c =
    let a = c.args in
    let s = scene (board a.p.now) in
    let supply = ap (has 4) (sym c.flags.ensures.is) ∙ sym c.has.ensures in
    ap (λ (n : ℕ). eqb n a.c) c.country.ensures.is ∙ sym (home_yes s a.h a.c (supply ∙ c.if-has.true))

pub returns : goal.returns
returns c =
    let a = c.args in
    let s = scene (board a.p.now) in
    let supply = ap (has 4) (sym c.flags.ensures.is) ∙ sym c.has.ensures in
    sym (home_no s a.h a.c (supply ∙ c.if-has.false))
