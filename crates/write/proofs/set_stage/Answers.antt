-- `write::set_stage` makes its change, byte by byte.
-- Assumes nothing.
use Prim.Native.Nat.{ℕ, ◌+◌, ◌/◌, ◌%◌}
use mathlib.Core.Path.{ap, ◌∙◌}
use mathlib.Core.List.{List}
use native.Mathlib.Omega.{arith}
use Rattle.position.specs.Layout.{owed_field, need_field, set_desk, set_stage}
use Rattle.position.specs.Change.{make}
use Rattle.position.proofs.Laying.{laid_desk}
use Rattle.write.proofs.set_stage.Goals as goal

pub set_desk-requires-2 : goal.set_desk-requires-2
set_desk-requires-2 c = (laid_desk _ _ c.requires.0 c.set_desk.ensures, omega arith, omega arith)

pub set_desk-requires-3 : goal.set_desk-requires-3
set_desk-requires-3 c = (laid_desk _ _ (laid_desk _ _ c.requires.0 c.set_desk.ensures) c.set_desk-2.ensures, omega arith, omega arith)

pub set_desk-requires-4 : goal.set_desk-requires-4
set_desk-requires-4 c = (laid_desk _ _ (laid_desk _ _ (laid_desk _ _ c.requires.0 c.set_desk.ensures) c.set_desk-2.ensures) c.set_desk-3.ensures, omega arith, omega arith)

pub returns : goal.returns
unfolding make set_stage
returns c =
    let a = c.args in
    c.set_desk-4.ensures
    ∙ ap (λ (q : List ℕ). set_desk q (need_field + 1) (a.need / 256))
    (c.set_desk-3.ensures
    ∙ ap (λ (q : List ℕ). set_desk q need_field (a.need % 256)) (c.set_desk-2.ensures ∙ ap (λ (q : List ℕ). set_desk q owed_field a.owed) c.set_desk.ensures))
