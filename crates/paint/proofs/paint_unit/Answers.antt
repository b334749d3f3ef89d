-- `paint_unit` meets its contract: a unit away from the region shows nothing, any other stands and casts.
-- Assumes nothing.
use mathlib.Core.Path.{◌∙◌}
use native.Mathlib.Omega.{arith}
use Rattle.position.specs.Board.{board}
use Rattle.field.specs.Scene.{scene}
use Rattle.paint.proofs.Adding.{adds_none, adds_as, adds_also}
use Rattle.paint.proofs.Units.{unit_away, says_parts}
use Rattle.paint.proofs.paint_unit.Goals as goal

pub returns-then-to-h : goal.returns-then-to-h
returns-then-to-h c =
    let a = c.args in
    let x = c.hex-h in
    adds_none (unit_away c.requires.0 a.f a.u x.result x.ensures.is (c.requires.3.each x.result (omega arith)))

pub returns-then-h-from : goal.returns-then-h-from
returns-then-h-from c =
    let a = c.args in
    let x = c.hex-h in
    adds_none (unit_away c.requires.0 a.f a.u x.result x.ensures.is (c.requires.2.each x.result (omega arith)))

pub returns-then-aside : goal.returns-then-aside
returns-then-aside c =
    let a = c.args in
    let s = c.spot-s in
    adds_none (unit_away c.requires.0 a.f a.u s.result.hex (s.ensures.1 ∙ c.hex-h.ensures.is) (c.aside.ensures c.if-aside.true))

pub returns : goal.returns
returns c =
    let a = c.args in
    let b = board a.p.now in
    adds_as (adds_also c.stand.ensures c.cast.ensures) (λ k h i. says_parts (scene b) a.f a.u k h)
