-- `advance::judge_advance` meets its contract: the numbers, the stage, and then the unit's questions.
-- Assumes nothing.
use mathlib.Core.Bool.{not}
use mathlib.Core.Path.{ap, sym, ◌∙◌}
use native.Mathlib.Omega.{arith}
use borrow.Author.Tests.{eq-eqb, le-leb, lt-leb, ne_eqb}
use Rattle.position.specs.Board.{board}
use Rattle.position.specs.Stage as Stage
use Rattle.ruling.proofs.Going.{tested_through}
use Rattle.ruling.proofs.Meets.{pass, stop}
use Rattle.aftermath.specs.Advance.{advance_checks}
use Rattle.advance.proofs.judge_advance.Goals as goal

pub returns-then-count-u : goal.returns-then-count-u
unfolding advance_checks
returns-then-count-u c =
    let a = c.args in
    λ l v. stop (le-leb (board a.p.now).units.count a.u (omega arith))

pub returns-then-hexes-hex : goal.returns-then-hexes-hex
unfolding advance_checks
returns-then-hexes-hex c =
    let a = c.args in
    λ l v. pass (lt-leb (board a.p.now).units.count a.u (omega arith))
    (stop (le-leb (board a.p.now).map.hexes a.hex (omega arith)))

pub returns-then-stage-ne-ADVANCES : goal.returns-then-stage-ne-ADVANCES
unfolding advance_checks
returns-then-stage-ne-ADVANCES c =
    let a = c.args in
    λ l v.
    pass (let a = c.args in
    lt-leb (board a.p.now).units.count a.u (omega arith))
    (pass (let a = c.args in
    lt-leb (board a.p.now).map.hexes a.hex (omega arith))
    (stop (ap not (ne_eqb (board a.p.now).desk.battle.stage Stage.advances (λ e. c.if-stage-ne-ADVANCES.true (c.stage.ensures.is ∙ e))))))

pub returns : goal.returns
unfolding advance_checks
returns c =
    let a = c.args in
    tested_through
    (λ l v r q m w.
    pass (let a = c.args in
    lt-leb (board a.p.now).units.count a.u (omega arith))
    (pass (let a = c.args in
    lt-leb (board a.p.now).map.hexes a.hex (omega arith))
    (pass (ap not (eq-eqb (board a.p.now).desk.battle.stage Stage.advances (sym c.stage.ensures.is ∙ c.if-stage-ne-ADVANCES.false))) w)))
    (λ n. n)
    c.judge_unit.result c.judge_unit.ensures
