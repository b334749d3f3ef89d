-- `layout::set_desk` meets its contract: the view says where the desk begins.
-- Assumes nothing.
use Prim.Native.Nat.{ℕ}
use mathlib.Core.Path.{ap}
use native.Mathlib.Omega.{arith}
use lib.ListN.{set}
use Rattle.position.specs.Layout.{set_desk}
use Rattle.position.proofs.layout.set_desk.Goals as goal

pub returns : goal.returns
unfolding set_desk
returns c =
    let a = c.args in
    ap (λ (i : ℕ). set a.p.now i a.x) (omega arith)
