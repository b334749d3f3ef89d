-- `unit::working` meets its contract: the whole number in supply, half of it out of supply.
-- Assumes nothing.
use mathlib.Core.Path.{sym}
use native.Mathlib.Omega.{arith}
use Rattle.position.specs.Board.{board}
use Rattle.field.specs.Working.{half}
use Rattle.field.proofs.Workings.{working_whole, working_half}
use Rattle.field.proofs.unit.working.Goals as goal

pub returns-then-in_supply : goal.returns-then-in_supply
returns-then-in_supply c = record { is = sym (working_whole _ _ _ _ c.if-in_supply.true); small = omega arith }

pub returns : goal.returns
unfolding half
returns c =
    let a = c.args in
    let e = working_half (board a.p.now) a.u a.in_supply a.n c.if-in_supply.false in
    record { is = omega arith; small = omega arith }
