-- `write::set_clock` makes its change, byte by byte.
-- Assumes nothing.
use mathlib.Core.Path.{ap, ◌∙◌}
use Prim.Native.Nat.{ℕ}
use mathlib.Core.List.{List}
use native.Mathlib.Omega.{arith}
use Rattle.position.specs.Layout.{force_field, phase_field, set_desk, set_clock}
use Rattle.position.specs.Change.{make}
use Rattle.position.proofs.Laying.{laid_desk}
use Rattle.write.proofs.set_clock.Goals as goal

pub set_desk-requires-2 : goal.set_desk-requires-2
set_desk-requires-2 c = (laid_desk _ _ c.requires.0 c.set_desk.ensures, omega arith, omega arith)

pub set_desk-requires-3 : goal.set_desk-requires-3
set_desk-requires-3 c = (laid_desk _ _ (laid_desk _ _ c.requires.0 c.set_desk.ensures) c.set_desk-2.ensures, omega arith, omega arith)

pub returns : goal.returns
unfolding make set_clock
returns c =
    let a = c.args in
    c.set_desk-3.ensures
    ∙ ap (λ (q : List ℕ). set_desk q phase_field a.phase) (c.set_desk-2.ensures ∙ ap (λ (q : List ℕ). set_desk q force_field a.force) c.set_desk.ensures)
