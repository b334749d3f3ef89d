-- `settling::write_routes` meets its contract: the attackers' hexes, the target, or nothing.
-- Assumes nothing.
use Prim.Native.Nat.{ℕ}
use mathlib.Core.List.{List}
use mathlib.Core.Path.{◌∙◌, ap, sym}
use Rattle.position.specs.Board.{board}
use Rattle.position.specs.Change.{makes}
use Rattle.results.proofs.Settles.{routes_attackers, routes_none, routes_target}
use Rattle.results.specs.Results.{routed_from}
use Rattle.results.proofs.settling.write_routes.Goals as goal

pub returns-then-o-eq-LOST : goal.returns-then-o-eq-LOST
returns-then-o-eq-LOST c =
    let a = c.args in
    c.route_hexes.ensures
    ∙ ap (λ (x : List ℕ). makes a.p.now (routed_from 0 x)) (sym (routes_attackers (board a.p.now) a.target a.units.now a.o c.if-o-eq-LOST.true))

pub returns-then-o-eq-LOST-2 : goal.returns-then-o-eq-LOST-2
unfolding makes routed_from
returns-then-o-eq-LOST-2 c =
    let a = c.args in
    c.set_route.ensures
    ∙ ap (λ (x : List ℕ). makes a.p.now (routed_from 0 x)) (sym (routes_target (board a.p.now) a.target a.units.now a.o c.if-o-eq-LOST.false c.if-o-eq-LOST-2.true))

pub returns-else-o-eq-LOST-2 : goal.returns-else-o-eq-LOST-2
unfolding makes routed_from
returns-else-o-eq-LOST-2 c =
    let a = c.args in
    ap (λ (x : List ℕ). makes a.p.now (routed_from 0 x)) (sym (routes_none (board a.p.now) a.target a.units.now a.o c.if-o-eq-LOST.false c.if-o-eq-LOST-2.false))
