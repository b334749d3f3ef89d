-- `stands::own_stand` meets its contract: test by test.
-- Assumes nothing.
use mathlib.Core.Path.{sym, ◌∙◌}
use Rattle.position.specs.Board.{board}
use Rattle.pushes.proofs.Standing.{stand_alone, stand_firm, stand_loose}
use Rattle.pushes.proofs.stands.own_stand.Goals as goal

pub returns-then-not-any_apart : goal.returns-then-not-any_apart
returns-then-not-any_apart c =
    let a = c.args in
    sym (stand_alone (board a.p.now) a.f a.a a.a c.requires.1 (sym c.any_apart.ensures ∙ c.if-not-any_apart.true))

pub returns-then-any_bars : goal.returns-then-any_bars
returns-then-any_bars c =
    let a = c.args in
    sym
    (stand_firm (board a.p.now) a.f a.a a.a c.requires.1 (sym c.any_apart.ensures ∙ c.if-not-any_apart.false)
    (sym c.any_bars.ensures ∙ c.if-any_bars.true))

pub returns : goal.returns
returns c =
    let a = c.args in
    sym
    (stand_loose (board a.p.now) a.f a.a a.a c.requires.1 (sym c.any_apart.ensures ∙ c.if-not-any_apart.false)
    (sym c.any_bars.ensures ∙ c.if-any_bars.false))
