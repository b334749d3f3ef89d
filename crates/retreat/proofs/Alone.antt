-- Where nobody near might be pushed, a series of pushes pushes nobody, and so it is a vacant route.
-- Assumes nothing.
use Prim.Native.Nat.{ℕ, suc, ◌+◌, ◌≤◌}
use mathlib.Core.Path.{◌≡◌, refl, sym, ◌∙◌}
use mathlib.Core.Bool.{true, false, not}
use mathlib.Core.List.{List}
use native.Mathlib.Omega.{arith}
use lib.ListN.{length}
use lib.Dec.{eqb}
use borrow.Author.Tests.{eq-eqb, ne_eqb}
use Rattle.grid.proofs.Walks.{same_zero}
use Rattle.position.specs.Board.{Board}
use Rattle.position.specs.Ground.{standable}
use Rattle.position.specs.Kind.{supply_kind}
use Rattle.position.specs.Tally.{any}
use Rattle.position.proofs.Sides.{next_on}
use Rattle.position.proofs.Tallies.{any_never, any_true, both_yes, either, not_both, same_or}
use Rattle.field.specs.Scene.{force_in, scene}
use Rattle.field.specs.Zone.{enemy_zone, holds, own_on, supply_unit_on}
use Rattle.field.proofs.Zones.{force_in_lem, stands_here, stands_off}
use Rattle.routes.specs.Bears.{bears, refuge}
use Rattle.routes.specs.Outlook.{Nobody, friends}
use Rattle.routes.specs.Run.{Run, Step}
use Rattle.routes.specs.Run as run
use Rattle.routes.specs.Search.{first_route, found}
use Rattle.routes.proofs.First.{found_right}
use Rattle.chains.specs.declared.Stand.TheVariants.{Free}
use Rattle.chains.specs.Chain.{Stands}
use Rattle.chains.specs.Series.{Onto, Series, land_of, shove, stay, walk}
use Rattle.chains.specs.Serves.{pushes_serve}
use Rattle.chains.specs.Stand.{stand}
use Rattle.chains.proofs.Serves.{serves_right}
use Rattle.shoves.specs.Group.{group_force}
use Rattle.shoves.proofs.Standing.{IsLoose, apart_here, apart_stands, free_is, free_vacant, light_is, loose_is}
use Rattle.retreat.specs.Retreat.{has_route, has_series}

-- a stack that can be pushed stands only where friends do
module _ (b : Board) (f start x : ℕ) (other : x ≡ start → ⊥) (l : IsLoose b f start x) where
  held : holds (scene b) f x ≡ true
  unfolding holds own_on
  held =
      let here = apart_stands b start x l.unit l.there in
      let own = (light_is b f l.unit (l.light l.unit l.counted l.there)).own in
      any_true (own_on (scene b) f x) b.units.count l.unit l.counted
      (simp (stands_here (scene b) x l.unit here, eq-eqb (force_in (scene b) l.unit) f (sym (force_in_lem b l.unit) ∙ own)))

  no_depot : any (supply_unit_on (scene b) f x) b.units.count ≡ false
  unfolding supply_unit_on own_on
  no_depot =
      any_never (supply_unit_on (scene b) f x) b.units.count
      (λ w c.
      same_or (b.units.state.hex w) x
      (λ e.
      let k = (light_is b f w (l.light w c (apart_here b start x w other e))).kind in
      either (eqb (force_in (scene b) w) f)
      (λ z. simp (stands_here (scene b) x w e, z, ne_eqb (b.units.counter.kind w) supply_kind k))
      (λ z. simp (stands_here (scene b) x w e, z)))
      (λ e. simp (stands_off (scene b) x w e)))

  pub loose_friends : friends b f x ≡ true
  unfolding friends bears
  loose_friends =
      simp (held, no_depot, (both_yes (standable b x) (not (enemy_zone (scene b) f x)) l.bear).1)

module _ (b : Board) (f start : ℕ) (nobody : Nobody b f start) where
  -- a step of a series enters a vacant hex
  into : (x : ℕ) → (x ≡ start → ⊥) → stand b f start x ≡ Free → refuge b f x ≡ true
  unfolding refuge
  into x other e = let i = free_is b f start x e in simp (free_vacant b f start x other i, i.bear)

  -- at a distance it is not the start
  away : (i a d x : ℕ) → Onto (land_of b start) (suc i) a d x → x ≡ start → ⊥
  unfolding land_of
  away i a d x o e = omega (arith, same_zero b.map.width start, (rw e at o).away)

  -- so a series is a run: it enters no hex where a stack can be pushed
  runs :
      {s : Stands} {i a : ℕ} {route pushes : List ℕ} → ((x : ℕ) → s x ≡ stand b f start x) → i + length route ≤ 3
      → Series (land_of b start) s i a route pushes → (last : ℕ) × Run b f start i a route last
  unfolding land_of
  runs q n stay = (_, run.stay)
  runs {i = i} {a = a} q n (walk {x = x} d o e k) =
      let r = runs q (omega arith) k in
      let t : Step b f start i a d x =
      record { leads = o.leads; into = into x (away i a d x o) (sym (q x) ∙ e); away = omega (arith, o.away) } in
      (r.0, run.go d t r.1)
  runs {i = i} {a = a} q n (shove {x = x} d o e c k) =
      let z = away i a d x o in
      absurd
      (not_both (friends b f x) (loose_friends b f start x z (loose_is b f start x (sym (q x) ∙ e)))
      (nobody.near x (next_on b.map a d x o.leads) (omega (arith, o.away)) z))

  -- so pushes serve nobody who has no vacant route
  pub alone_none : (n : ℕ) → n ≤ 3 → found (first_route b f start n) ≡ false → pushes_serve b f start n ≡ false
  alone_none n l e =
      either (pushes_serve b f start n)
      (λ y.
      let s = (serves_right b f start n).0 y in
      let r = runs (λ x. refl) (omega (arith, s.legal.long)) s.legal.series in
      not_both (found (first_route b f start n))
      ((found_right b f start n).1 (s.route, record { long = s.legal.long; last = r.0; run = r.1 }))
      e)
      (λ y. y)

-- the group has no series of pushes then
pub alone_series :
    (b : Board) (h : ℕ) → b.desk.battle.owed ≤ 3 → Nobody b (group_force b h) h → has_route b h ≡ false → has_series b h ≡ false
unfolding has_route has_series
alone_series b h l n e = alone_none b (group_force b h) h n b.desk.battle.owed l e
