-- What a lawful board keeps while a call changes it, whatever its stage asks: the lines on units and routes, and whose turn it is.
-- With the lines on its stage, the board at the end is lawful.
-- Assumes nothing.
use Prim.Native.Nat.{ℕ, ◌+◌, ◌≤◌, ◌<◌}
use mathlib.Core.Path.{◌≡◌, refl, sym, ap, ◌∙◌}
use mathlib.Core.Bool.{true}
use native.Mathlib.Omega.{arith}
use lib.Dec.{ltb}
use Rattle.position.specs.Layout.{route_count, route_hexes}
use Rattle.position.specs.Board.{Board, Desk, nowhere}
use Rattle.position.specs.Crowd.{filled}
use Rattle.position.specs.Change.{Change}
use Rattle.position.specs.Change.Change.{placed, destroyed, assigned, staged, routed, unrouted}
use Rattle.position.specs.Effect.{with_stage, with_routes, reroute, unfilled, with_desk, change}
use Rattle.position.specs.Stage as Stage
use Rattle.position.specs.Role as Role
use Rattle.position.proofs.Tallies.{same_or, either}
use Rattle.acceptance.specs.Accepted.{UnitsOk, StageOk, PlaceOk, RoutesOk, Lawful}
use Rattle.acceptance.proofs.Carries.{Fixed, fixed_desk, fixed_change, routes_ok_by, lawful_by}
use Rattle.acceptance.proofs.Lawfuls.{Room, units_placed}
use Rattle.acceptance.proofs.Fates.{destroyed_else, destroyed_here, assigned_else, assigned_none, units_fewer}
use Rattle.acceptance.proofs.Fates.Lesser.{same, freed, gone}
use Rattle.acceptance.proofs.Stills.{fixed_refl, fixed_trans}
use Rattle.acceptance.proofs.Routings.{routes_written_lem, routes_cleared}
use Rattle.clock.specs.Phase as Phase

-- board c, since board b
pub record Since (b c : Board) : Type 0 where
  pub fixed : Fixed b c
  pub clock : c.desk.clock ≡ b.desk.clock
  pub units : UnitsOk c
  pub routes : RoutesOk c

pub since_lawful : {b : Board} → Lawful b → Since b b
since_lawful {b} l = record { fixed = fixed_refl b; clock = refl; units = l.units; routes = l.routes }

-- the board at the end
pub lawful_since :
    {b c : Board} → Lawful b → Since b c → c.desk.battle.stage ≤ 3 → ((c.desk.battle.stage ≡ Stage.quiet → ⊥) → b.desk.clock.phase ≡ Phase.combat) → StageOk c
    → Lawful c
lawful_since l s most combat stage =
    let k = l.clock in
    let i = s.clock in
    lawful_by s.fixed s.units
    (record {
      turn = rw i k.turn;
      last_turn = rw (i, s.fixed.last_turn) k.last_turn;
      force = rw i k.force;
      phase = rw i k.phase;
      stage = most;
      combat = λ n. rw i (combat n);
    })
    stage
    s.routes
    l

-- placing a unit leaves the desk
pub placed_desk : (c : Board) (u h : ℕ) → (change c (placed u h)).desk ≡ c.desk
unfolding change
placed_desk c u h = either (ltb h c.map.hexes) (λ e. simp e) (λ e. simp e)

module _ {b c : Board} (most : b.map.hexes ≤ nowhere) (s : Since b c) where
  small : c.map.hexes ≤ nowhere
  small = rw s.fixed.map most

  -- a change that leaves the desk, and another desk
  since_units : (x : Change) → (change c x).desk ≡ c.desk → UnitsOk (change c x) → Since b (change c x)
  since_units x e o =
      let f = fixed_change c x in
      record {
        fixed = fixed_trans s.fixed f;
        clock = ap (λ (d : Desk). d.clock) e ∙ s.clock;
        units = o;
        routes = routes_ok_by f (ap (λ (d : Desk). d.route) e) s.routes;
      }

  since_desk :
      (d : Desk) → d.last_turn ≡ c.desk.last_turn → d.player ≡ c.desk.player → d.clock ≡ c.desk.clock → RoutesOk (with_desk c d)
      → Since b (with_desk c d)
  since_desk d e g k o =
      let f = fixed_desk c d e g in
      record {
        fixed = fixed_trans s.fixed f;
        clock = k ∙ s.clock;
        units = units_fewer f small (λ w l. same (record { hex = refl; marks = refl; role = refl })) s.units;
        routes = o;
      }

  -- unit u is destroyed, has no role any more, or goes where there is room
  pub since_destroyed : (u : ℕ) → Since b (change c (destroyed u))
  unfolding change
  since_destroyed u =
      since_units (destroyed u) refl
      (units_fewer (fixed_change c (destroyed u)) small
      (λ w l.
      same_or u w
      (λ e. rw (sym e) (gone (destroyed_here c u (omega arith))))
      (λ n. same (destroyed_else c u w (λ e. n (sym e)))))
      s.units)

  pub since_freed : (u : ℕ) → Since b (change c (assigned u Role.none))
  unfolding change
  since_freed u =
      since_units (assigned u Role.none) refl
      (units_fewer (fixed_change c (assigned u Role.none)) small
      (λ w l.
      same_or u w
      (λ e. rw (sym e) (freed (assigned_none c u (omega arith))))
      (λ n. same (assigned_else c u 0 w (λ e. n (sym e)))))
      s.units)

  pub since_placed : (u h : ℕ) → u < c.units.count → Room c u h → Since b (change c (placed u h))
  since_placed u h l r = since_units (placed u h) (placed_desk c u h) (units_placed s.units u h l r)

  -- the stage is set, and route r is written, given what its places are
  pub since_staged : (t n x : ℕ) → Since b (change c (staged t n x))
  unfolding change
  since_staged t n x =
      since_desk (with_stage c.desk t n x) refl refl refl
      (routes_ok_by (fixed_change c (staged t n x)) refl s.routes)

  pub since_routed :
      (r w x y z : ℕ) → r < route_count → (w ≡ nowhere → ⊥) → ((i : ℕ) → i + 1 ≡ r → filled c i ≡ true)
      → ((j : ℕ) → j < route_hexes → PlaceOk (change c (routed r w x y z)) r j) → Since b (change c (routed r w x y z))
  unfolding change
  since_routed r w x y z l n before path =
      since_desk (with_routes c.desk (reroute c.desk.route r w x y z)) refl refl refl
      (routes_written_lem c r w x y z l n before path s.routes)

  -- the routes are cleared
  pub since_unrouted : Since b (change c unrouted)
  unfolding change
  since_unrouted =
      since_desk (with_routes c.desk unfilled) refl refl refl (routes_cleared c)
