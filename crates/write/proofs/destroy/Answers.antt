-- `write::destroy` makes its change: hex, marks and role, one after the other.
-- Assumes nothing.
use Prim.Native.Nat.{ℕ, ◌+◌, ◌*◌, ◌/◌, ◌%◌}
use mathlib.Core.Path.{◌≡◌, ap, ap₂, ◌∙◌}
use mathlib.Core.List.{List}
use native.Mathlib.Omega.{arith}
use Rattle.position.specs.Bits.{faced}
use Rattle.position.specs.Layout.{marks_field, role_field, marks, set_unit, set_marks, set_role}
use Rattle.position.specs.Change.{make}
use Rattle.position.proofs.Laying.{laid_unit, laid_hex}
use Rattle.write.proofs.destroy.Goals as goal

pub set_unit-requires : goal.set_unit-requires
set_unit-requires c = (laid_hex _ _ c.requires c.set_hex.ensures, omega arith, omega arith)

pub set_unit-requires-2 : goal.set_unit-requires-2
set_unit-requires-2 c = (laid_unit _ _ _ (laid_hex _ _ c.requires c.set_hex.ensures) c.set_unit.ensures, omega arith, omega arith)

pub returns : goal.returns
unfolding make set_marks set_role faced
returns c =
    let u = c.args.u in
    let old : c.marks-old.result % 2 ≡ 0 / 2 * 2 + marks c.args.p.now u % 2 = omega (arith, c.marks-old.ensures.is) in
    c.set_unit-2.ensures
    ∙ ap (λ (q : List ℕ). set_unit q u role_field 0)
    (c.set_unit.ensures ∙ ap₂ (λ (q : List ℕ) (x : ℕ). set_unit q u marks_field x) c.set_hex.ensures old)
