-- `layout::set_unit` meets its contract: the view says where the units begin and how many there are.
-- Assumes nothing.
use Prim.Native.Nat.{ℕ}
use mathlib.Core.Path.{sym, ap, ◌∙◌}
use native.Mathlib.Omega.{arith}
use lib.ListN.{set}
use Rattle.position.specs.Layout.{unit_at}
use Rattle.position.proofs.Tables.{set_unit_in, set_unit_out}
use Rattle.position.proofs.layout.set_unit.Goals as goal

pub returns-then-u-count : goal.returns-then-u-count
unfolding unit_at
returns-then-u-count c =
    let a = c.args in
    ap (λ (i : ℕ). set a.p.now i a.x) (omega arith) ∙ sym (set_unit_in a.p.now a.u a.f a.x (omega arith))

pub returns-else-u-count : goal.returns-else-u-count
returns-else-u-count c = let a = c.args in sym (set_unit_out a.p.now a.u a.f a.x (omega arith))
