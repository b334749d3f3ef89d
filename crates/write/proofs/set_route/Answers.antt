-- `write::set_route` makes its change, number by number, or none where there is no such route.
-- Assumes nothing.
use mathlib.Core.Path.{sym, ap, ◌∙◌}
use mathlib.Core.List.{List}
use Prim.Native.Nat.{ℕ}
use native.Mathlib.Omega.{arith}
use Rattle.position.specs.Layout.{set_route_hex}
use Rattle.position.proofs.Laying.{laid_route_hex, routed_in, routed_out}
use Rattle.write.proofs.set_route.Goals as goal

pub returns-then-r-ge-ROUTE_COUNT : goal.returns-then-r-ge-ROUTE_COUNT
returns-then-r-ge-ROUTE_COUNT c = let a = c.args in sym (routed_out a.p.now a.r a.a a.b a.c a.d (omega arith))

pub set_route_hex-requires-2 : goal.set_route_hex-requires-2
set_route_hex-requires-2 c = (laid_route_hex _ _ _ c.requires.0 c.set_route_hex.ensures, omega arith, omega arith, omega arith)

pub set_route_hex-requires-3 : goal.set_route_hex-requires-3
set_route_hex-requires-3 c = (laid_route_hex _ _ _ (laid_route_hex _ _ _ c.requires.0 c.set_route_hex.ensures) c.set_route_hex-2.ensures, omega arith, omega arith, omega arith)

pub set_route_hex-requires-4 : goal.set_route_hex-requires-4
set_route_hex-requires-4 c = (laid_route_hex _ _ _ (laid_route_hex _ _ _ (laid_route_hex _ _ _ c.requires.0 c.set_route_hex.ensures) c.set_route_hex-2.ensures) c.set_route_hex-3.ensures, omega arith, omega arith, omega arith)

pub returns : goal.returns
returns c =
    let a = c.args in
    c.set_route_hex-4.ensures
    ∙ ap (λ (q : List ℕ). set_route_hex q a.r 3 a.d)
    (c.set_route_hex-3.ensures
    ∙ ap (λ (q : List ℕ). set_route_hex q a.r 2 a.c)
    (c.set_route_hex-2.ensures ∙ ap (λ (q : List ℕ). set_route_hex q a.r 1 a.b) c.set_route_hex.ensures))
    ∙ sym (routed_in a.p.now a.r a.a a.b a.c a.d (omega arith))
