-- An accepted position stays accepted after an advance, and after a close.
-- Assumes nothing.
use Prim.Native.Nat.{ℕ, ◌+◌, ◌≤◌, ◌<◌}
use mathlib.Core.Path.{◌≡◌, sym, ap, ◌∙◌}
use mathlib.Core.Bool.{false, true, not}
use mathlib.Core.List.{List, [], ◌∷◌}
use native.Mathlib.Omega.{arith}
use lib.Dec.{eqb, leb, ltb}
use borrow.Author.Tests.{eqb-true, leb-false, not-false, not-true}
use Rattle.position.specs.Layout.{route_count, route_hexes}
use Rattle.position.specs.Board.{Board, board, force_of, nowhere}
use Rattle.position.specs.Crowd.{others}
use Rattle.position.specs.Ground.{joined, standable}
use Rattle.position.specs.Kind.{moves_by_land}
use Rattle.position.specs.Tally.{any}
use Rattle.position.specs.Change.Change.{assigned, placed}
use Rattle.position.specs.Effect.{change, changes}
use Rattle.position.specs.Stage as Stage
use Rattle.position.specs.Role as Role
use Rattle.position.proofs.Shapes.{hexes_most}
use Rattle.position.proofs.Tallies.{any_false, any_some, both_yes, either, neither}
use Rattle.acceptance.specs.Accepted.{Accepted, Lawful}
use Rattle.acceptance.proofs.Lawfuls.{Room}
use Rattle.acceptance.proofs.Since.{since_lawful, since_placed}
use Rattle.ruling.proofs.Kept.{Kept, kept_past, kept_ruled}
use Rattle.field.specs.Scene.{scene}
use Rattle.field.specs.Zone.{holds_enemy, holds_neutral}
use Rattle.field.specs.Listed.{sieve}
use Rattle.field.proofs.Zones.{all_own}
use Rattle.aftermath.specs.Stage.{then_on}
use Rattle.aftermath.specs.Advance.{
  advance_changes,
  advance_checks,
  advance_rule,
  clear_to,
  close_changes,
  close_rule,
  held_at,
  may_advance,
  no_route,
  can_follow,
  shut,
  unit_checks,
}
use Rattle.aftermath.proofs.KeepStage.{Lessened, all_freed, lawful_then_on, lessened_freed, lessened_none, lessened_owing}

-- a route's number is the hex, and it is not shut to unit u
record Reached (b : Board) (u hex : ℕ) : Type 0 where
  route : ℕ
  place : ℕ
  filled : route < route_count
  within : place < route_hexes
  is : b.desk.route route place ≡ hex
  free : shut b u hex ≡ false

module _ (b : Board) (u hex : ℕ) where
  follow_leads : (r : ℕ) → can_follow b u hex r ≡ true → any (clear_to b u hex r) route_hexes ≡ true
  unfolding can_follow
  follow_leads r e = (both_yes (joined b.map (b.units.state.hex u) (b.desk.route r 0)) (any (clear_to b u hex r) route_hexes) e).1

  clear_parts : (r j : ℕ) → clear_to b u hex r j ≡ true → (b.desk.route r j ≡ hex) × (any (held_at b u r) (j + 1) ≡ false)
  unfolding clear_to
  clear_parts r j e =
      let h = any (held_at b u r) (j + 1) in
      let x = both_yes (eqb (b.desk.route r j) hex) (not h) e in
      (eqb-true (b.desk.route r j) hex x.0, not-true h x.1)

  free_there : (r j : ℕ) → b.desk.route r j ≡ hex → held_at b u r j ≡ false → shut b u hex ≡ false
  unfolding held_at
  free_there r j e f = ap (shut b u) (sym e) ∙ f

  all_own_there : shut b u hex ≡ false → (w : ℕ) → w < b.units.count → b.units.state.hex w ≡ hex → force_of b w ≡ force_of b u
  unfolding shut
  all_own_there e =
      let n = neither (holds_enemy (scene b) (force_of b u) hex) (holds_neutral (scene b) (force_of b u) hex) e in
      all_own b u hex n.0 n.1

  reached : no_route b u hex ≡ false → Reached b u hex
  unfolding no_route
  reached e =
      let r = any_some (can_follow b u hex) route_count (not-false (any (can_follow b u hex) route_count) e) in
      let j = any_some (clear_to b u hex r.at) route_hexes (follow_leads r.at r.passes) in
      let x = clear_parts r.at j.at j.passes in
      record {
        route = r.at;
        place = j.at;
        filled = r.below;
        within = j.below;
        is = x.0;
        free = free_there r.at j.at x.0 (any_false (held_at b u r.at) (j.at + 1) j.at x.1 (omega arith));
      }

-- placing a unit leaves the roles
placed_role : (b : Board) (u h w : ℕ) → (change b (placed u h)).units.state.role w ≡ b.units.state.role w
unfolding change
placed_role b u h w = either (ltb h b.map.hexes) (λ e. simp e) (λ e. simp e)

-- the questions asked of the stage
stage_three : (b : Board) → not (eqb b.desk.battle.stage Stage.advances) ≡ false → b.desk.battle.stage ≡ Stage.advances
stage_three b e = eqb-true b.desk.battle.stage Stage.advances (not-false (eqb b.desk.battle.stage Stage.advances) e)

-- the hexes of a map are numbers below that for none
small : (p : List ℕ) → Accepted p → (board p).map.hexes ≤ nowhere
small p a = omega (arith, hexes_most a.shaped)

-- all roles taken
pub closed : {b : Board} → Lawful b → b.map.hexes ≤ nowhere → Lessened b (changes b (close_changes b))
unfolding close_changes
closed {b} l most = all_freed most (sieve (may_advance b) b.units.count) (lessened_none l)

module _ {p : List ℕ} (a : Accepted p) where
  module _ (u hex : ℕ) where
    room :
        hex < (board p).map.hexes → no_route (board p) u hex ≡ false → leb 3 (others (board p) u hex) ≡ false
        → Room (board p) u hex
    room l e f =
        let b = board p in
        let r = reached b u hex e in
        let n : hex ≡ nowhere → ⊥ = λ z. omega (arith, hexes_most a.shaped) in
        record {
          hex = n;
          stands =
              ap (standable b) (sym r.is)
              ∙ ((a.lawful.routes r.route r.filled).places r.place r.within).stands (λ z. n (sym r.is ∙ z));
          few = omega (arith, leb-false 3 (others b u hex) f);
          own = λ w m _ z. all_own_there b u hex r.free w m z;
        }

    lawful_advance :
        u < (board p).units.count → (board p).desk.battle.stage ≡ Stage.advances → Room (board p) u hex
        → Lawful (changes (board p) (then_on (board p) (advance_changes (board p) u hex)))
    unfolding advance_changes changes
    lawful_advance l e r =
        let b = board p in
        let most = small p a in
        let o : Lessened b (change b (placed u hex)) =
        record { since = since_placed most (since_lawful a.lawful) u hex l r; had = λ w n. placed_role b u hex w }
        in
        let q = lessened_freed most o u in
        lawful_then_on a.lawful most (λ z. omega arith) (placed u hex ∷ assigned u Role.none ∷ []) q.since
        (λ n. absurd (n (lessened_owing q (a.lawful.stage.during.advances e).owing)))

    pub advance_keeps : {l : List ℕ} → Kept p l (advance_rule (board p) u hex)
    unfolding advance_rule advance_checks unit_checks
    advance_keeps =
        let b = board p in
        kept_past a (leb b.units.count u)
        (λ n.
        kept_past a (leb b.map.hexes hex)
        (λ h.
        kept_past a (not (eqb b.desk.battle.stage Stage.advances))
        (λ e.
        kept_past a (not (may_advance b u))
        (λ _.
        kept_past a (not (moves_by_land (b.units.counter.kind u)))
        (λ _.
        kept_past a (no_route b u hex)
        (λ f.
        kept_past a (leb 3 (others b u hex))
        (λ g.
        kept_ruled a (then_on b (advance_changes b u hex))
        (lawful_advance (leb-false b.units.count u n) (stage_three b e) (room (leb-false b.map.hexes hex h) f g)))))))))

  lawful_close : (board p).desk.battle.stage ≡ Stage.advances → Lawful (changes (board p) (then_on (board p) (close_changes (board p))))
  lawful_close e =
      let b = board p in
      let most = small p a in
      let q = closed a.lawful most in
      lawful_then_on a.lawful most (λ z. omega arith) (close_changes b) q.since
      (λ n. absurd (n (lessened_owing q (a.lawful.stage.during.advances e).owing)))

  pub close_keeps : {l : List ℕ} → Kept p l (close_rule (board p))
  unfolding close_rule
  close_keeps =
      let b = board p in
      kept_past a (not (eqb b.desk.battle.stage Stage.advances))
      (λ e. kept_ruled a (then_on b (close_changes b)) (lawful_close (stage_three b e)))
