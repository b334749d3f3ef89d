-- `grade::landing` meets its contract: each return by what the tests before it decide.
-- Assumes nothing.
use mathlib.Core.Path.{sym, ap, ◌∙◌}
use Rattle.position.specs.Board.{board}
use Rattle.position.specs.Bits.{has}
use Rattle.field.specs.Scene.{scene}
use Rattle.supply.proofs.Grading.{landing_port, landing_inland, landing_urban, landing_supply}
use Rattle.supply.proofs.grade.landing.Goals as goal

pub returns-then-has : goal.returns-then-has
returns-then-has c =
    let a = c.args in
    let s = scene (board a.p.now) in
    let flags = sym c.flags-flags.ensures.is in
    sym (landing_port s a.h (ap (has 1) flags ∙ sym c.has.ensures ∙ c.if-has.true))

pub returns-then-not-coastal : goal.returns-then-not-coastal
returns-then-not-coastal c =
    let a = c.args in
    let s = scene (board a.p.now) in
    let flags = sym c.flags-flags.ensures.is in
    let inland = ap (has 1) flags ∙ sym c.has.ensures ∙ c.if-has.false in
    sym (landing_inland s a.h inland (sym c.coastal.ensures ∙ c.if-not-coastal.true))

pub returns-then-has-2 : goal.returns-then-has-2
returns-then-has-2 c =
    let a = c.args in
    let s = scene (board a.p.now) in
    let flags = sym c.flags-flags.ensures.is in
    let inland = ap (has 1) flags ∙ sym c.has.ensures ∙ c.if-has.false in
    let shore = sym c.coastal.ensures ∙ c.if-not-coastal.false in
    let town = ap (has 2) flags ∙ sym c.has-2.ensures ∙ c.if-has-2.true in
    sym (landing_urban s a.h inland shore town)

pub returns : goal.returns
returns c =
    let a = c.args in
    let s = scene (board a.p.now) in
    let flags = sym c.flags-flags.ensures.is in
    let inland = ap (has 1) flags ∙ sym c.has.ensures ∙ c.if-has.false in
    let shore = sym c.coastal.ensures ∙ c.if-not-coastal.false in
    let town = ap (has 2) flags ∙ sym c.has-2.ensures ∙ c.if-has-2.false in
    c.has-3.ensures ∙ ap (has 4) c.flags-flags.ensures.is ∙ sym (landing_supply s a.h inland shore town)
