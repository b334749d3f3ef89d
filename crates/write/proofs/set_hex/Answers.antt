-- `write::set_hex` writes both bytes of the unit's hex.
-- Assumes nothing.
use Prim.Native.Nat.{ℕ, ◌+◌, ◌/◌}
use mathlib.Core.Path.{ap, ◌∙◌}
use mathlib.Core.List.{List}
use native.Mathlib.Omega.{arith}
use Rattle.position.specs.Layout.{hex_field, set_unit, set_hex}
use Rattle.position.proofs.Laying.{laid_unit}
use Rattle.write.proofs.set_hex.Goals as goal

pub set_unit-requires-2 : goal.set_unit-requires-2
set_unit-requires-2 c = (laid_unit _ _ _ c.requires.0 c.set_unit.ensures, omega arith, omega arith)

pub returns : goal.returns
unfolding set_hex
returns c = c.set_unit-2.ensures ∙ ap (λ (q : List ℕ). set_unit q c.args.u (hex_field + 1) (c.args.h / 256)) c.set_unit.ensures
