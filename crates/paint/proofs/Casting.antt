-- Zones from the casters outward: what one caster covers, and that the units cover one by one what lies in an Enemy zone.
-- Assumes nothing.
use Rattle.std.specs.Prelude.{Option, Some, None}
use Prim.Native.Nat.{ℕ, ◌+◌, ◌%◌, ◌≤◌, ◌<◌}
use mathlib.Core.Path.{◌≡◌, refl, sym, ap, ◌∙◌}
use mathlib.Core.Bool.{Bool, true, false, not, ◌&&◌, ◌||◌, and-false}
use native.Mathlib.Omega.{arith}
use lib.Dec.{ltb, eqb}
use borrow.Author.Tests.{lt-ltb, le-ltb, ltb-true, eq-eqb, ne_eqb, eqb-true, eqb-false, not-true}
use Rattle.grid.specs.declared.Spot.{Spot}
use Rattle.grid.specs.Map.{neighbour_of}
use Rattle.grid.specs.Spot.{SpotOf, NearOf}
use Rattle.grid.proofs.Laws.{opposite}
use Rattle.position.specs.Tally.{any}
use Rattle.position.specs.Kind.{casts_zone}
use Rattle.position.specs.Board.{Map}
use Rattle.position.specs.Ground.{beside, side, is_at}
use Rattle.position.proofs.Tallies.{both_yes, not_both, same_or, either, any_zero, any_step, any_some, any_true}
use Rattle.position.proofs.Sides.{side_symmetric, is-at, at_is}
use Rattle.field.specs.Scene.{Scene, force_in}
use Rattle.field.specs.Zone.{stands_on, own_on, caster_on, holds_caster, enemy_zone}
use Rattle.field.proofs.Zones.{CastFrom, ZoneFrom, zone_from, from_zone}
use Rattle.paint.specs.Paint.{Mark, bit, zone_mark, casts_against, covers, zone_by, only, cast_to, reaches}
use Rattle.paint.proofs.Adding.{also}

-- what lies beside a spot, by the answer's cases
module _ (w h x d : ℕ) (b : Option Spot) (o : NearOf w h x d b) where
  pub near_off : b ≡ None → neighbour_of w h x d ≡ None
  near_off e = rw e at o

  pub near_at : {t : Spot} → b ≡ Some t → (neighbour_of w h x d ≡ Some t.hex) × SpotOf w h t
  near_at e = rw e at o

module _ (m : Map) (n d : ℕ) where
  -- nothing is covered off the map, over a major river or a blocked side, or in all-sea
  pub covers_edge : (h : ℕ) → beside m n d ≡ None → covers m n h d ≡ false
  unfolding covers is_at
  covers_edge h e = ap (λ (b : Option ℕ). is_at b h && (ltb (side m n d) 2 && not (eqb (m.surface h) 2))) e

  pub covers_stopped : (h : ℕ) → 2 ≤ side m n d → covers m n h d ≡ false
  unfolding covers
  covers_stopped h l = simp (le-ltb (side m n d) 2 l, and-false)

  module _ (t : ℕ) (e : beside m n d ≡ Some t) where
    covers_at : (h : ℕ) → covers m n h d ≡ (eqb t h && (ltb (side m n d) 2 && not (eqb (m.surface h) 2)))
    unfolding covers is_at
    covers_at h = ap (λ (b : Option ℕ). is_at b h && (ltb (side m n d) 2 && not (eqb (m.surface h) 2))) e

    pub covers_sea : (h : ℕ) → m.surface t ≡ 2 → covers m n h d ≡ false
    covers_sea h z =
        covers_at h ∙
        same_or t h
        (λ q. simp (eq-eqb (m.surface h) 2 (rw q at z), and-false, and-false))
        (λ k. simp (ne_eqb t h k))

    -- and elsewhere the neighbour
    pub covers_land : (h : ℕ) → side m n d < 2 → (m.surface t ≡ 2 → ⊥) → covers m n h d ≡ eqb t h
    covers_land h l z =
        covers_at h ∙
        same_or t h
        (λ q. simp (eq-eqb t h q, lt-ltb (side m n d) 2 l, ne_eqb (m.surface h) 2 (rw q at z)))
        (λ k. simp (ne_eqb t h k))

  -- so marks are added on it, or nowhere
  pub cast_none : (k : Mark) (h : ℕ) → covers m n h d ≡ false → cast_to m n d k h ≡ false
  unfolding cast_to
  cast_none k h e = simp (e, and-false)

  pub cast_only : (k : Mark) (h t : ℕ) → covers m n h d ≡ eqb t h → only zone_mark t k h ≡ cast_to m n d k h
  unfolding cast_to only
  cast_only k h t e = ap (λ (b : Bool). eqb (bit k) zone_mark && b) (sym e)

-- one direction after the other
and_or : (a b c : Bool) → ((a && b) || (a && c)) ≡ (a && (b || c))
and_or true b c = refl
and_or false b c = refl

module _ (m : Map) (n : ℕ) (k : Mark) (h : ℕ) where
  pub reaches_none : reaches m n 0 k h ≡ false
  unfolding reaches
  reaches_none = simp (any_zero (covers m n h), and-false)

  pub reaches_step : (d : ℕ) → also (reaches m n d) (cast_to m n d) k h ≡ reaches m n (d + 1) k h
  unfolding also cast_to reaches
  reaches_step d =
      and_or (eqb (bit k) zone_mark) (covers m n h d) (any (covers m n h) d)
      ∙ ap (λ (b : Bool). eqb (bit k) zone_mark && b) (sym (any_step (covers m n h) d))

-- what a unit that casts against a force is
record Caster (s : Scene) (f u : ℕ) : Type 0 where
  among : force_in s u < 4
  against : s.enemy f (force_in s u) ≡ true
  casts : casts_zone (s.kind u) ≡ true

module _ (s : Scene) (f u : ℕ) where
  caster_is : casts_against s f u ≡ true → Caster s f u
  unfolding casts_against
  caster_is e =
      let a = both_yes (ltb (force_in s u) 4) (s.enemy f (force_in s u) && casts_zone (s.kind u)) e in
      let b = both_yes (s.enemy f (force_in s u)) (casts_zone (s.kind u)) a.1 in
      record { among = ltb-true (force_in s u) 4 a.0; against = b.0; casts = b.1 }

  is_caster : Caster s f u → casts_against s f u ≡ true
  unfolding casts_against
  is_caster c = simp (lt-ltb (force_in s u) 4 c.among, c.against, c.casts)

  -- the tests of a unit that casts against a force, one by one
  pub casts_force : 4 ≤ force_in s u → casts_against s f u ≡ false
  unfolding casts_against
  casts_force l = simp (le-ltb (force_in s u) 4 l)

  pub casts_friend : s.enemy f (force_in s u) ≡ false → casts_against s f u ≡ false
  unfolding casts_against
  casts_friend e = simp (e, and-false)

  pub casts_enemy : force_in s u < 4 → s.enemy f (force_in s u) ≡ true → casts_against s f u ≡ casts_zone (s.kind u)
  unfolding casts_against
  casts_enemy l e = simp (lt-ltb (force_in s u) 4 l, e)

-- what it is for a caster on hex n to cover hex h
record Cover (m : Map) (n h d : ℕ) : Type 0 where
  next : beside m n d ≡ Some h
  thin : side m n d < 2
  not_sea : m.surface h ≡ 2 → ⊥

module _ (m : Map) (n h d : ℕ) where
  cover_is : covers m n h d ≡ true → Cover m n h d
  unfolding covers
  cover_is e =
      let a = both_yes (is_at (beside m n d) h) (ltb (side m n d) 2 && not (eqb (m.surface h) 2)) e in
      let b = both_yes (ltb (side m n d) 2) (not (eqb (m.surface h) 2)) a.1 in
      record {
        next = is-at (beside m n d) h a.0;
        thin = ltb-true (side m n d) 2 b.0;
        not_sea = eqb-false (m.surface h) 2 (not-true (eqb (m.surface h) 2) b.1);
      }

  is_cover : Cover m n h d → covers m n h d ≡ true
  unfolding covers
  is_cover c = simp (at_is c.next, lt-ltb (side m n d) 2 c.thin, ne_eqb (m.surface h) 2 c.not_sea)

module _ (s : Scene) (f h : ℕ) where
  holds_it : (u : ℕ) → u < s.count → casts_zone (s.kind u) ≡ true → holds_caster s (force_in s u) (s.hex u) ≡ true
  unfolding holds_caster caster_on own_on stands_on
  holds_it u l e =
      any_true (caster_on s (force_in s u) (s.hex u)) s.count u l
      (simp (eq-eqb (s.hex u) (s.hex u) refl, eq-eqb (force_in s u) (force_in s u) refl, e))

  -- a unit that covers the hex casts from the hex's other side
  unit_zone : (u d : ℕ) → u < s.count → Caster s f u → Cover s.map (s.hex u) h d → ZoneFrom s f h
  unit_zone u d l c k =
      let m = s.map in
      record {
        force = force_in s u;
        among = c.among;
        against = c.against;
        from = record {
          direction = (d + 3) % 6;
          hex = s.hex u;
          turned = omega arith;
          not_sea = k.not_sea;
          thin = omega (arith, k.thin, side_symmetric m (s.hex u) d h k.next);
          next = opposite m.width m.height (s.hex u) d h k.next;
          held = holds_it u l c.casts;
        };
      }

  covering : any (zone_by s f h) s.count ≡ true → enemy_zone s f h ≡ true
  unfolding zone_by
  covering e =
      let w = any_some (zone_by s f h) s.count e in
      let u = w.at in
      let a = both_yes (casts_against s f u) (any (covers s.map (s.hex u) h) 6) w.passes in
      let x = any_some (covers s.map (s.hex u) h) 6 a.1 in
      from_zone s f h (unit_zone u x.at w.below (caster_is s f u a.0) (cover_is s.map (s.hex u) h x.at x.passes))

  -- and the one that casts a zone over it covers it
  record Who (g n u : ℕ) : Type 0 where
    here : s.hex u ≡ n
    force : force_in s u ≡ g
    casts : casts_zone (s.kind u) ≡ true

  who_is : (g n u : ℕ) → caster_on s g n u ≡ true → Who g n u
  unfolding caster_on own_on stands_on
  who_is g n u e =
      let a = both_yes (eqb (s.hex u) n && eqb (force_in s u) g) (casts_zone (s.kind u)) e in
      let b = both_yes (eqb (s.hex u) n) (eqb (force_in s u) g) a.0 in
      record { here = eqb-true (s.hex u) n b.0; force = eqb-true (force_in s u) g b.1; casts = a.1 }

  cover_from : {g : ℕ} (c : CastFrom s g h) → Cover s.map c.hex h ((c.direction + 3) % 6)
  cover_from c =
      let m = s.map in
      record {
        next = opposite m.width m.height h c.direction c.hex c.next;
        thin = omega (arith, c.thin, side_symmetric m h c.direction c.hex c.next);
        not_sea = c.not_sea;
      }

  unit_covers : (u : ℕ) (z : ZoneFrom s f h) → Who z.force z.from.hex u → zone_by s f h u ≡ true
  unfolding zone_by
  unit_covers u z k =
      let d = (z.from.direction + 3) % 6 in
      let c : Caster s f u = record { among = omega (arith, z.among, k.force); against = ap (s.enemy f) k.force ∙ z.against; casts = k.casts } in
      let o : covers s.map (s.hex u) h d ≡ true = rw k.here (is_cover s.map z.from.hex h d (cover_from z.from)) in
      simp (is_caster s f u c, any_true (covers s.map (s.hex u) h) 6 d (omega arith) o)

  covered : enemy_zone s f h ≡ true → any (zone_by s f h) s.count ≡ true
  unfolding holds_caster
  covered e =
      let z = zone_from s f h e in
      let w = any_some (caster_on s z.force z.from.hex) s.count z.from.held in
      any_true (zone_by s f h) s.count w.at w.below (unit_covers w.at z (who_is z.force z.from.hex w.at w.passes))

  -- the units one by one make up the Enemy zones
  pub zone_units : any (zone_by s f h) s.count ≡ enemy_zone s f h
  zone_units =
      either (enemy_zone s f h)
      (λ e. covered e ∙ sym e)
      (λ e. either (any (zone_by s f h) s.count) (λ q. not_both (enemy_zone s f h) (covering q) e) (λ q. q ∙ sym e))
