-- `stands::firm` meets its contract: of the force's own units that don't supply, those are firm that owe. The tests before need no answer.
-- Assumes nothing.
use Prim.Native.Nat.{ℕ}
use mathlib.Core.Path.{sym, ap, ◌∙◌}
use native.Mathlib.Omega.{arith}
use lib.Dec.{eqb}
use Rattle.position.specs.Board.{board}
use Rattle.pushes.proofs.Standing.{firm_owes}
use Rattle.pushes.proofs.stands.firm.Goals as goal

pub returns : goal.returns
returns c =
    let a = c.args in
    let e = sym c.force_of.ensures ∙ c.if-force_of-f.false in
    ap (λ (n : ℕ). eqb n 1) c.role.ensures.is
    ∙ sym (firm_owes (board a.p.now) a.f a.u e (λ supply. omega arith))
