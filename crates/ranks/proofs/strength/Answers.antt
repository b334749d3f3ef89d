-- `ranks::strength` meets its contract: what is traced says of the unit's hex whether it is supplied.
-- Assumes nothing.
use Prim.Native.Nat.{ℕ}
use mathlib.Core.Path.{◌∙◌, ap}
use native.Mathlib.Omega.{arith}
use lib.Dec.{leb}
use lib.ListN.{get_or}
use Rattle.position.specs.Board.{board}
use Rattle.field.proofs.Workings.{working_most}
use Rattle.battle.proofs.Lines.{armed_is, traced_says}
use Rattle.ranks.proofs.strength.Goals as goal

pub returns : goal.returns
returns c =
    let a = c.args in
    let b = board a.p.now in
    let u = a.f.unit in
    let o = c.working.ensures in
    record {
      is = armed_is b u a.f.printed (ap (λ (h : ℕ). leb 2 (get_or a.traced.now h 0)) c.hex-h.ensures.is ∙ traced_says c.requires.2 (b.units.state.hex u) c.requires.1.mapped) o.is;
      small = omega (arith, o.is, working_most b u (leb 2 (get_or a.traced.now c.hex-h.result 0)) a.f.printed);
    }
