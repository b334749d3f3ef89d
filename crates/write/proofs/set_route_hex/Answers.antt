-- `write::set_route_hex` writes both bytes of a route's number.
-- Assumes nothing.
use Prim.Native.Nat.{ℕ, ◌+◌, ◌/◌}
use mathlib.Core.Path.{ap, ◌∙◌}
use mathlib.Core.List.{List}
use native.Mathlib.Omega.{arith}
use Rattle.position.specs.Layout.{route_field, set_desk, set_route_hex}
use Rattle.position.proofs.Laying.{laid_desk}
use Rattle.write.proofs.set_route_hex.Goals as goal

pub set_desk-requires-2 : goal.set_desk-requires-2
set_desk-requires-2 c = (laid_desk _ _ c.requires.0 c.set_desk.ensures, omega arith, omega arith)

pub returns : goal.returns
unfolding set_route_hex
returns c =
    let a = c.args in
    c.set_desk-2.ensures ∙ ap (λ (q : List ℕ). set_desk q (route_field a.r a.j + 1) (a.h / 256)) c.set_desk.ensures
