-- `stands::apart` meets its contract, test by test.
-- Assumes nothing.
use mathlib.Core.Path.{sym, ◌∙◌}
use Rattle.position.specs.Board.{board}
use Rattle.pushes.proofs.Standing.{apart_elsewhere, apart_stays, apart_owes}
use Rattle.pushes.proofs.stands.apart.Goals as goal

pub returns-then-hex-h : goal.returns-then-hex-h
returns-then-hex-h c =
    let a = c.args in
    sym (apart_elsewhere (board a.p.now) a.a a.h a.u (λ e. c.if-hex-h.true (c.hex.ensures.is ∙ e)))

pub returns-then-role-ne-OWES : goal.returns-then-role-ne-OWES
returns-then-role-ne-OWES c =
    let a = c.args in
    let e = sym c.hex.ensures.is ∙ c.if-hex-h.false in
    sym (apart_stays (board a.p.now) a.a a.h a.u e (λ r. c.if-role-ne-OWES.true (c.role.ensures.is ∙ r)))

pub returns : goal.returns
returns c =
    let a = c.args in
    let e = sym c.hex.ensures.is ∙ c.if-hex-h.false in
    sym (apart_owes (board a.p.now) a.a a.h a.u e (sym c.role.ensures.is ∙ c.if-role-ne-OWES.false))
