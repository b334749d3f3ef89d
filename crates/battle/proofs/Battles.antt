-- A battle on a lawful board leaves a lawful board: its changes, one list after another, come to what `LawfulAfter` tells.
-- Assumes nothing.
use Prim.Native.Nat.{ℕ, ◌≤◌, ◌<◌}
use mathlib.Core.Path.{◌≡◌, refl, sym, ap, subst, ◌∙◌}
use mathlib.Core.Bool.{true, false, or-true}
use mathlib.Core.List.{List, [], ◌∷◌, ◌++◌, map}
use native.Mathlib.Omega.{arith}
use lib.ListN.{length}
use lib.Dec.{eqb}
use borrow.Author.Tests.{eqb-true, ne_eqb}
use Rattle.position.specs.Bits.{has, tried}
use Rattle.position.specs.Board.{Board, Units, Desk}
use Rattle.position.specs.Ground.{joined}
use Rattle.position.specs.Crowd.{crowd}
use Rattle.position.specs.Change.Change.{staged}
use Rattle.position.specs.Effect.{change, changes}
use Rattle.position.specs.Stage as Stage
use Rattle.position.proofs.Tallies.{either}
use Rattle.acceptance.specs.Accepted.{RoutesOk, Lawful}
use Rattle.acceptance.proofs.Carries.{Fixed, fixed_change, changes_then, routes_ok_by}
use Rattle.acceptance.proofs.Stills.{fixed_trans, fixed_changes, Still, still_trans}
use Rattle.acceptance.proofs.Fates.{Same, Fated, same_trans, same_fated, fated_same}
use Rattle.ruling.specs.Secret.{Each}
use Rattle.field.specs.Scene.{scene}
use Rattle.field.specs.Zone.{stands_on}
use Rattle.position.specs.Ground.{bearing}
use Rattle.position.proofs.Bearings.{bearing_below}
use Rattle.field.proofs.Zones.{stands_here}
use Rattle.field.specs.Listed.{named, sieve}
use Rattle.results.specs.declared.Upshot.{Upshot}
use Rattle.results.specs.Participants.{defenders, participants}
use Rattle.results.specs.Results.{lost, fought_by, suffers, suffered_by, once_each, routes_written, routed_from, battle_changes}
use Rattle.field.proofs.Lists.{sieve_long}
use Rattle.ruling.proofs.Secrets.{each_by}
use Rattle.field.proofs.Named.{each_then, each_map, named_each, named_then, sieve_each, sieve_names, once_most}
use Rattle.battle.proofs.Onces.{once_each_lem, once_once}
use Rattle.battle.proofs.Striking.{Present, marked_all, routed_all, Footing, routes_all, Struck, struck}
use Rattle.battle.proofs.Ring.{joined_one}
use Rattle.results.proofs.Upshots.{Sensible, NeedOk}
use Rattle.battle.proofs.LawfulAfter.{Attacker, Ready, attacker_of, attacker_off, Shown, Sides, Desked, lawful_after}

-- the units in the target hex
module _ (b : Board) (target : ℕ) where
  pub stands_is : (w : ℕ) → stands_on (scene b) target w ≡ true → b.units.state.hex w ≡ target
  unfolding stands_on
  stands_is w e = eqb-true (b.units.state.hex w) target e

  pub defenders_each : Each (λ w. (w < b.units.count) × (b.units.state.hex w ≡ target)) (defenders b target)
  unfolding defenders
  defenders_each =
      each_by (λ w h. (h.0, stands_is w h.1)) (sieve (stands_on (scene b) target) b.units.count)
      (sieve_each (stands_on (scene b) target) b.units.count)

  defender_named : (w : ℕ) → w < b.units.count → b.units.state.hex w ≡ target → named (defenders b target) w ≡ true
  unfolding defenders
  defender_named w l e = sieve_names (stands_on (scene b) target) b.units.count w l (stands_here (scene b) target w e)

  named_defender : (w : ℕ) → named (defenders b target) w ≡ true → b.units.state.hex w ≡ target
  named_defender w e = (named_each _ (defenders b target) defenders_each w e).1

  pub defenders_long : length (defenders b target) ≡ crowd b target
  unfolding defenders crowd stands_on
  defenders_long = sieve_long (stands_on (scene b) target) b.units.count

-- board d is board b with the units us turned over
pub record Seen (b d : Board) (us : List ℕ) : Type 0 where
  pub lawful : Lawful d
  pub still : Still b d
  pub tried : Each (λ u. u < d.units.count → has tried (d.units.state.marks u) ≡ true) us

-- a hex beside the target that a route may be
record Near (b : Board) (target h : ℕ) : Type 0 where
  footing : Footing b h
  beside : joined b.map h target ≡ true

-- hexes that routes may be
record Written (b : Board) (hs : List ℕ) : Type 0 where
  few : length hs ≤ 6
  footing : Each (Footing b) hs

module _ {b : Board} {target : ℕ} {units : List ℕ} (g : Ready b target units) where
  attacker_near : (w : ℕ) → Attacker b target w → Near b target (b.units.state.hex w)
  attacker_near w k =
      record {
        footing = record { stands = ((g.lawful.units.each w k.below).stand.mapped k.mapped).stands; hex = k.mapped };
        beside = k.beside;
      }

  attackers_written : Written b (once_each [] (map b.units.state.hex units))
  attackers_written =
      let hs = map b.units.state.hex units in
      let near =
      once_each_lem (Near b target) hs [] tt
      (each_map (Near b target) b.units.state.hex units (each_by attacker_near units g.attackers))
      in
      record {
        few =
            once_most {P = Near b target} (λ h. bearing b.map h target) 6 (λ h k. bearing_below b.map h target k.beside)
            (λ h k x y e. joined_one b.map target h k x.beside y.beside e)
            (once_each [] hs)
            near
            (once_once hs [] tt);
        footing = each_by (λ h k. k.footing) (once_each [] hs) near;
      }

  target_footing : Footing b target
  target_footing =
      let h = g.held in
      record {
        stands =
            rw h.here at
            ((g.lawful.units.each h.unit h.below).stand.mapped (λ z. g.aimed (sym h.here ∙ z))).stands;
        hex = g.aimed;
      }

  routes_fit : (o : Upshot) → Written b (routes_written b target units o)
  unfolding routes_written
  routes_fit o =
      either (eqb o.attackers lost) (λ e. simp e attackers_written)
      (λ e.
      simp e
      (either (eqb o.defenders lost) (λ f. simp f (record { few = omega arith; footing = (target_footing, tt) }))
      (λ f. simp f (record { few = omega arith; footing = tt }))))

  no_routes_lem : (o : Upshot) → (o.attackers ≡ 0 → ⊥) → (o.defenders ≡ 0 → ⊥) → routes_written b target units o ≡ []
  unfolding routes_written
  no_routes_lem o x y = simp (ne_eqb o.attackers lost x, ne_eqb o.defenders lost y)

  pub attackers_below : Each (λ w. w < b.units.count) units
  attackers_below = each_by (λ w k. k.below) units g.attackers

  participants_present : Each (Present b) (participants b target units)
  unfolding participants
  participants_present =
      each_then (Present b) units (defenders b target)
      (each_by (λ w k. record { below = k.below; mapped = k.mapped }) units g.attackers)
      (each_by (λ w h. record { below = h.0; mapped = λ z. g.aimed (sym h.1 ∙ z) }) (defenders b target)
      (defenders_each b target))

  -- the boards as the battle's changes leave them, one list after another
  module _ (d : Board) (v : Seen b d (participants b target units)) (o : Upshot) (z : Sensible o) (need : ℕ) (n : NeedOk o need) where
    abbrev marked : Board
    marked = changes d (fought_by b (participants b target units))

    abbrev routed : Board
    routed = changes marked (routed_from 0 (routes_written b target units o))

    abbrev halfway : Board
    halfway = changes routed (map (suffers o.attackers) units)

    abbrev settled : Board
    settled = changes halfway (map (suffers o.defenders) (defenders b target))

    abbrev last : Board
    last = change settled (staged o.stage o.owed need)

    last_is : changes d (battle_changes b target units o need) ≡ last
    unfolding battle_changes suffered_by changes
    last_is =
        let f = fought_by b (participants b target units) in
        let r = routed_from 0 (routes_written b target units o) in
        let x = map (suffers o.attackers) units in
        let y = map (suffers o.defenders) (defenders b target) in
        let t = staged o.stage o.owed need ∷ [] in
        changes_then f (r ++ ((x ++ y) ++ t)) d
        ∙ changes_then r ((x ++ y) ++ t) marked
        ∙ changes_then (x ++ y) t routed
        ∙ ap (λ (c : Board). changes c t) (changes_then x y routed)

    shown : Shown b marked target units
    unfolding participants
    shown =
        let ds = defenders b target in
        let m = marked_all g.lawful (participants b target units) participants_present v.lawful v.still in
        let turned : (w : ℕ) → w < b.units.count → named (units ++ ds) w ≡ true → has tried (marked.units.state.marks w) ≡ true =
        λ w l e. m.still.face w (named_each _ (units ++ ds) v.tried w e (omega (arith, v.still.fixed.count)))
        in
        record {
          lawful = m.lawful;
          still = still_trans v.still m.still;
          attackers = λ w e. turned w (attacker_of g w e).below (named_then units ds w ∙ simp e);
          defenders = λ w l e. turned w l (named_then units ds w ∙ simp (defender_named b target w l e, or-true));
        }

    count_routed : routed.units.count ≡ b.units.count
    count_routed =
        (fixed_changes (routed_from 0 (routes_written b target units o)) marked).count ∙ shown.still.fixed.count

    first : Struck routed halfway o.attackers units
    first = struck o.attackers b.units.count units attackers_below routed count_routed

    second : Struck halfway settled o.defenders (defenders b target)
    second =
        struck o.defenders b.units.count (defenders b target)
        (each_by (λ w h. h.0) (defenders b target) (defenders_each b target))
        halfway
        ((fixed_changes (map (suffers o.attackers) units) routed).count ∙ count_routed)

    units_routed : routed.units ≡ marked.units
    units_routed = (routed_all (routes_written b target units o) 0 marked).units

    undefended : (w : ℕ) → (b.units.state.hex w ≡ target → ⊥) → named (defenders b target) w ≡ false
    undefended w n = either (named (defenders b target) w) (λ e. absurd (n (named_defender b target w e))) (λ e. e)

    unlisted : (w : ℕ) → b.units.state.hex w ≡ target → named units w ≡ false
    unlisted w e = either (named units w) (λ h. absurd (attacker_off g w h e)) (λ h. h)

    fixed_routed : Fixed routed last
    fixed_routed =
        fixed_trans (fixed_changes (map (suffers o.attackers) units) routed)
        (fixed_trans (fixed_changes (map (suffers o.defenders) (defenders b target)) halfway)
        (fixed_change settled (staged o.stage o.owed need)))

    sides : Sides b marked last target units o
    unfolding change
    sides =
        record {
          fixed = fixed_trans (fixed_changes (routed_from 0 (routes_written b target units o)) marked) fixed_routed;
          attackers =
              λ w e.
              subst (λ (u : Units). Fated u settled.units o.attackers w) units_routed
              (fated_same (first.hit w e) (second.off w (undefended w (attacker_off g w e))));
          defenders =
              λ w l e.
              subst (λ (u : Units). Fated u settled.units o.defenders w) units_routed
              (same_fated (first.off w (unlisted w e)) (second.hit w (defender_named b target w l e)));
          others =
              λ w e n.
              subst (λ (u : Units). Same u settled.units w) units_routed
              (same_trans (first.off w e) (second.off w (undefended w n)));
        }

    desk_settled : settled.desk ≡ routed.desk
    desk_settled = second.desk ∙ first.desk

    routes_last : RoutesOk last
    unfolding change
    routes_last =
        let w = routes_fit o in
        routes_ok_by fixed_routed (ap (λ (x : Desk). x.route) desk_settled)
        (routes_all b (routes_written b target units o) 0 (omega (arith, w.few)) w.footing marked shown.still.fixed
        (λ i l. absurd (omega arith))
        shown.lawful.routes)

    unrouted : o.stage ≡ Stage.retreats → routed.desk.route ≡ b.desk.route
    unfolding routed_from changes
    unrouted e =
        let h = z.retreats e in
        let la = z.attackers in
        let ld = z.defenders in
        ap (λ (hs : List ℕ). (changes marked (routed_from 0 hs)).desk.route) (no_routes_lem o (λ x. omega arith) (λ x. omega arith))
        ∙ ap (λ (x : Desk). x.route) shown.still.desk

    desked : Desked b last o
    unfolding change
    desked =
        let r = (routed_all (routes_written b target units o) 0 marked).clock in
        record {
          clock =
              ap (λ (x : Desk). x.clock) desk_settled ∙ r ∙ ap (λ (x : Desk). x.clock) shown.still.desk;
          stage = refl;
          owed = refl;
          need = n.exact;
          free = n.none;
          unrouted = λ e. ap (λ (x : Desk). x.route) desk_settled ∙ unrouted e;
          routes = routes_last;
        }

    pub lawful_battle : Lawful (changes d (battle_changes b target units o need))
    lawful_battle = rw last_is (lawful_after g shown sides z desked)
