-- `stands::bars` meets its contract, test by test.
-- Assumes nothing.
use mathlib.Core.Path.{sym, ◌∙◌}
use Rattle.position.specs.Board.{board}
use Rattle.pushes.proofs.Standing.{bars_not, bars_there}
use Rattle.pushes.proofs.stands.bars.Goals as goal

pub returns-then-not-apart : goal.returns-then-not-apart
returns-then-not-apart c =
    let a = c.args in
    sym (bars_not (board a.p.now) a.f a.a a.h a.u (sym c.apart.ensures ∙ c.if-not-apart.true))

pub returns : goal.returns
returns c =
    let a = c.args in
    let e = sym c.apart.ensures ∙ c.if-not-apart.false in
    c.firm.ensures ∙ sym (bars_there (board a.p.now) a.f a.a a.h a.u e)
