-- `grade::open_by` meets its contract: each return by what the tests before it decide.
-- Assumes nothing.
use mathlib.Core.Path.{sym, ◌∙◌}
use native.Mathlib.Omega.{arith}
use Rattle.position.specs.Board.{board}
use Rattle.field.specs.Scene.{scene}
use Rattle.supply.proofs.Grading.{open_water, open_enemy, open_zone, open_free}
use Rattle.supply.proofs.grade.open_by.Goals as goal

pub returns-then-surface-gt1 : goal.returns-then-surface-gt1
returns-then-surface-gt1 c =
    let a = c.args in
    let s = scene (board a.p.now) in
    sym (open_water s a.h a.m (omega arith))

pub returns-then-has : goal.returns-then-has
returns-then-has c =
    let a = c.args in
    let s = scene (board a.p.now) in
    sym (open_enemy s a.h a.m (sym c.has.ensures ∙ c.if-has.true))

pub returns-then-has-2 : goal.returns-then-has-2
returns-then-has-2 c =
    let a = c.args in
    let s = scene (board a.p.now) in
    let free = sym c.has.ensures ∙ c.if-has.false in
    c.has-then-has-2.ensures ∙ sym (open_zone s a.h a.m (omega arith) free (sym c.has-2.ensures ∙ c.if-has-2.true))

pub returns : goal.returns
returns c =
    let a = c.args in
    let s = scene (board a.p.now) in
    sym (open_free s a.h a.m (omega arith) (sym c.has.ensures ∙ c.if-has.false) (sym c.has-2.ensures ∙ c.if-has-2.false))
