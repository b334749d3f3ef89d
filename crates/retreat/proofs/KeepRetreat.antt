-- An accepted position stays accepted after a retreat.
-- Assumes nothing.
use Prim.Native.Nat.{ℕ, ◌+◌, ◌-◌, ◌≤◌, ◌<◌}
use mathlib.Core.Path.{◌≡◌, refl, sym, ap, fun_ext, ◌∙◌}
use mathlib.Core.Bool.{false, true, not, ◌&&◌}
use mathlib.Core.List.{List, []}
use native.Mathlib.Omega.{arith}
use lib.Dec.{eqb, leb, ltb}
use lib.ListN.{get_or, length}
use borrow.Author.Tests.{eqb-true, not-false}
use Rattle.grid.proofs.Walks.{same_zero}
use Rattle.position.specs.Layout.{route_count}
use Rattle.position.specs.Board.{Board, Desk, board, force_of, nowhere}
use Rattle.position.specs.Crowd.{filled, holders, owes_at, owing_hexes, routes}
use Rattle.position.specs.Ground.{standable}
use Rattle.position.specs.Tally.{any, tally}
use Rattle.position.specs.Change.Change.{routed}
use Rattle.position.specs.Effect.{change, changes}
use Rattle.position.specs.Role as Role
use Rattle.position.specs.Stage as Stage
use Rattle.position.proofs.Shapes.{hexes_most}
use Rattle.position.proofs.Tallies.{any_some, both_yes, either, tally_some}
use Rattle.acceptance.specs.Accepted.{Accepted, Lawful, StageOk}
use Rattle.acceptance.proofs.Carries.{changes_then, fixed_change, standable_by}
use Rattle.acceptance.proofs.Owings.{owing_some}
use Rattle.acceptance.proofs.Routings.{routes_empty, routes_more}
use Rattle.acceptance.proofs.Since.{Since, lawful_since}
use Rattle.acceptance.proofs.Stages.{stage_retreats}
use Rattle.ruling.proofs.Kept.{Kept, kept_along, kept_past, kept_ruled}
use Rattle.field.specs.Listed.{off_map, on_map_all, on_map_from}
use Rattle.field.specs.Scene.{scene}
use Rattle.field.specs.Zone.{stands_on, vacant}
use Rattle.routes.specs.Legal.{legal}
use Rattle.routes.specs.Run.{LegalRoute, Run, stay}
use Rattle.routes.proofs.Legal.{legal_right}
use Rattle.routes.proofs.Part.{part_right}
use Rattle.chains.specs.Stand.{stand}
use Rattle.chains.specs.Series.{LegalSeries, land_of}
use Rattle.chains.specs.Follows.{none, legal_pushes}
use Rattle.chains.proofs.Follows.{legal_pushes_right}
use Rattle.shoves.specs.Group.{group, group_force}
use Rattle.shoves.proofs.KeepChain.{bears_stands}
use Rattle.shoves.proofs.KeepEnds.{Left}
use Rattle.shoves.proofs.KeepSeries.{series_left}
use Rattle.shoves.proofs.KeepStep.{OwnGroup}
use Rattle.shoves.proofs.KeepZone.{bears_same}
use Rattle.shoves.proofs.Standing.{apart_same, not_shut, stand_same}
use Rattle.aftermath.specs.Stage.{passes_on, then_on}
use Rattle.aftermath.proofs.KeepStage.{lawful_passed}
use Rattle.retreat.specs.Retreat.{
  doom_changes,
  doomed,
  end_of,
  has_route,
  is_part,
  leave_changes,
  note_of,
  not_part,
  not_pushed,
  not_vacant,
  push_changes,
  retreat_changes,
  retreat_rule,
  walks_from,
}
use Rattle.retreat.proofs.Fates.{none_nil, part_supply, part_walks}
use Rattle.retreat.proofs.KeepRoute.{
  refuge_stands,
  refuge_vacant,
  routes_room,
  run_follows,
  run_refuge,
  series_follows,
  since_written,
  standable_where,
}
use Rattle.retreat.proofs.KeepGroup.{Owes, doomed_left, group_own, left_holders, left_owing, off_left, start_stands}

-- the board on which the next route is written: units and map are as they were
module _ (b : Board) (h x y z : ℕ) where
  abbrev noted : Board
  noted = change b (routed (routes b) h x y z)

  noted_stage : (noted.desk.battle.stage ≡ b.desk.battle.stage) × (noted.desk.battle.owed ≡ b.desk.battle.owed) × (noted.desk.battle.need ≡ b.desk.battle.need)
  unfolding change
  noted_stage = (refl, refl, refl)

  noted_owes : (w : ℕ) → owes_at noted h w ≡ owes_at b h w
  unfolding change owes_at
  noted_owes w = refl

  noted_group : group noted h ≡ group b h
  unfolding change group owes_at
  noted_group = refl

  noted_holders : (holders noted Role.owes ≡ holders b Role.owes) × (owing_hexes noted ≡ owing_hexes b)
  unfolding change holders owing_hexes owes_at
  noted_holders = (refl, refl)

  noted_vacant : (w : ℕ) → vacant (scene noted) w ≡ vacant (scene b) w
  unfolding change vacant stands_on
  noted_vacant w = refl

  pub noted_stand : (f : ℕ) → stand noted f h ≡ stand b f h
  unfolding change
  noted_stand f =
      let k = fixed_change b (routed (routes b) h x y z) in
      fun_ext
      (λ w.
      stand_same f h h w k (bears_same f k (λ u l n. refl) w) (λ u l. apart_same b noted h w u refl refl) (λ u l e. refl))

  pub noted_own : (f : ℕ) → OwnGroup b f h → OwnGroup noted f h
  unfolding change force_of
  noted_own f o w l e = o w l (sym (noted_owes w) ∙ e)

-- routes are counted on the desk
routes_desk : (b c : Board) → c.desk ≡ b.desk → routes c ≡ routes b
unfolding routes filled
routes_desk b c e = ap (λ (d : Desk). tally (λ r. not (eqb (d.route r 0) nowhere)) route_count) e

-- where somebody owes, a hex does
holds_some : (b : Board) → (holders b Role.owes ≡ 0 → ⊥) → 1 ≤ owing_hexes b
unfolding holders
holds_some b n =
    let s = tally_some (λ u. eqb (b.units.state.role u) Role.owes) b.units.count (omega arith) in
    owing_some b s.at s.below (eqb-true (b.units.state.role s.at) Role.owes s.passes)

-- a retreat starts at no distance
pub far_start : (b : Board) (h : ℕ) → (land_of b h).far h ≡ 0
unfolding land_of
far_start b h = same_zero b.map.width h

-- board c since board b, the retreats not over and fewer units owing
pub record Lighter (b c : Board) : Type 0 where
  pub since : Since b c
  pub stage : c.desk.battle.stage ≡ Stage.retreats
  pub fewer : holders c Role.owes < holders b Role.owes

module _ {b : Board} (l : Lawful b) (most : b.map.hexes ≤ nowhere) (e : b.desk.battle.stage ≡ Stage.retreats) (h u : ℕ) (m : Owes b h u) where
  stands : standable b h ≡ true
  stands = start_stands l h u m

  pub real : h ≡ nowhere → ⊥
  real = standable_where b h most stands

  -- the group is gone and its route is written: the retreats go on, or the stage passes on
  module _ (x y z : ℕ) {c : Board} (o : Left b (noted b h x y z) h c) where
    still_owes : Owes (noted b h x y z) h u
    unfolding change
    still_owes = (m.0, noted_owes b h x y z u ∙ m.1)

    one_more : routes c ≡ routes b + 1
    one_more =
        routes_desk (noted b h x y z) c o.desk
        ∙ routes_more b (routes b) h x y z (routes_room l e) real
        (routes_empty l.routes (routes b) (omega arith) (routes_room l e))

    as_before : (c.desk.battle.stage ≡ Stage.retreats) × (c.desk.battle.owed ≡ b.desk.battle.owed) × (c.desk.battle.need ≡ 0)
    as_before =
        let k = noted_stage b h x y z in (
          ap (λ (d : Desk). d.battle.stage) o.desk ∙ k.0 ∙ e,
          ap (λ (d : Desk). d.battle.owed) o.desk ∙ k.1,
          ap (λ (d : Desk). d.battle.need) o.desk ∙ k.2 ∙ l.stage.need (λ q. omega arith),
        )

    lighter : Lighter b c
    lighter =
        record {
          since = o.since;
          stage = as_before.0;
          fewer = omega (arith, left_holders o u still_owes, (noted_holders b h x y z).0);
        }

    goes_on_lem : (holders c Role.owes ≡ 0 → ⊥) → StageOk c
    goes_on_lem n =
        let k = l.stage.during.retreats e in
        stage_retreats as_before.0 as_before.2
        (record {
          owed = rw as_before.1 k.owed;
          some = holds_some c n;
          room = omega (arith, k.room, one_more, left_owing o u still_owes, (noted_holders b h x y z).1);
        })

    lawful_left : Lawful (changes c (passes_on c))
    lawful_left =
        lawful_passed l most (λ i. omega arith) o.since
        (λ n. lawful_since l o.since (omega (arith, as_before.0)) (λ _. l.clock.combat (λ i. omega arith)) (goes_on_lem n))

  -- the group is destroyed at the end of a run
  module _ (f : ℕ) (route : List ℕ) {last : ℕ} (r : Run b f h 0 h route last) where
    pub doom :
        Left b (noted b h (get_or route 0 nowhere) (get_or route 1 nowhere) (get_or route 2 nowhere)) h (changes b (doom_changes b h route))
    unfolding doom_changes note_of changes
    doom =
        let x = get_or route 0 nowhere in
        let y = get_or route 1 nowhere in
        let z = get_or route 2 nowhere in
        let k = run_follows most real r in
        rw (sym (noted_group b h x y z)) (doomed_left (since_written l most e h x y z stands (k 0) (k 1) (k 2)) most h)

  -- it goes along a vacant route
  module _ (f : ℕ) (route : List ℕ) (r : LegalRoute b f h b.desk.battle.owed route) where
    off : Left b (noted b h (get_or route 0 nowhere) (get_or route 1 nowhere) (get_or route 2 nowhere)) h (changes b (retreat_changes b h route))
    unfolding retreat_changes note_of changes end_of
    off =
        let x = get_or route 0 nowhere in
        let y = get_or route 1 nowhere in
        let z = get_or route 2 nowhere in
        let k = run_follows most real r.run in
        let w = (l.stage.during.retreats e).owed in
        let i = b.desk.battle.owed - 1 in
        let v = run_refuge most r.run i (omega (arith, r.long, w.low)) in
        let end = get_or route i nowhere in
        rw (sym (noted_group b h x y z))
        (off_left (since_written l most e h x y z stands (k 0) (k 1) (k 2)) most h b end real
        (standable_by (fixed_change b (routed (routes b) h x y z)) end ∙ refuge_stands b f end v)
        (noted_vacant b h x y z end ∙ refuge_vacant b f end v))

  -- or pushes
  module _ (f : ℕ) (own : OwnGroup b f h) (route pushes : List ℕ) (r : LegalSeries b f h b.desk.battle.owed route pushes) where
    -- the board on which the route is written
    pub pushed_since : Since b (noted b h (get_or route 0 nowhere) (get_or route 1 nowhere) (get_or route 2 nowhere))
    pushed_since =
        let k =
        series_follows h most (λ w n. bears_stands b f w (not_shut b f h w n)) real r.series
        in
        since_written l most e h (get_or route 0 nowhere) (get_or route 1 nowhere) (get_or route 2 nowhere) stands (k 0) (k 1) (k 2)

    pushed :
        Left b (noted b h (get_or route 0 nowhere) (get_or route 1 nowhere) (get_or route 2 nowhere)) h (changes b (push_changes b h route pushes))
    unfolding push_changes note_of changes
    pushed =
        let x = get_or route 0 nowhere in
        let y = get_or route 1 nowhere in
        let z = get_or route 2 nowhere in
        series_left f most pushed_since real (noted_own b h x y z f own) (far_start b h) r.series (noted_stand b h x y z f)

  -- what is not refused by 14 or 17 is a part route, and so a run, or legal; a vacant route comes without pushes
  pub is_run_lem : (route pushes : List ℕ) → not_part b h route pushes ≡ false → doomed b h ≡ true
      → (last : ℕ) × Run b (group_force b h) h 0 h route last
  unfolding not_part
  is_run_lem route pushes n d =
      let t = is_part b h route in
      let q : not (t && none pushes) ≡ false = simp d at n in
      let z = (both_yes t (none pushes) (not-false (t && none pushes) q)).0 in
      either (any (walks_from b h) b.units.count)
      (λ w. let r = ((part_right b (group_force b h) h route).0 (sym (part_walks b h route w) ∙ z)).run in (r.last, r.run))
      (λ w. rw (none_nil route (sym (part_supply b h route w) ∙ z)) (h, stay))

  pub is_legal : (route pushes : List ℕ) → not_vacant b h route pushes ≡ false → doomed b h ≡ false → has_route b h ≡ true
      → LegalRoute b (group_force b h) h b.desk.battle.owed route × (pushes ≡ [])
  unfolding not_vacant
  is_legal route pushes n d s =
      let t = legal b (group_force b h) h b.desk.battle.owed route in
      let q : not (t && none pushes) ≡ false = simp (d, s) at n in
      let z = both_yes t (none pushes) (not-false (t && none pushes) q) in
      ((legal_right b (group_force b h) h b.desk.battle.owed route).0 z.0, none_nil pushes z.1)

  pub is_pushed : (route pushes : List ℕ) → not_pushed b h route pushes ≡ false → doomed b h ≡ false → has_route b h ≡ false
      → LegalSeries b (group_force b h) h b.desk.battle.owed route pushes
  unfolding not_pushed
  is_pushed route pushes n d s =
      let t = legal_pushes b (group_force b h) h b.desk.battle.owed route pushes in
      let q : not t ≡ false = simp (d, s) at n in
      (legal_pushes_right b (group_force b h) h b.desk.battle.owed route pushes).0 (not-false t q)

  module _ (route pushes : List ℕ) (part14 : not_part b h route pushes ≡ false) (vacant14 : not_vacant b h route pushes ≡ false) (pushed17 : not_pushed b h route pushes ≡ false) where
    abbrev first : ℕ
    first = get_or route 0 nowhere

    abbrev second : ℕ
    second = get_or route 1 nowhere

    abbrev third : ℕ
    third = get_or route 2 nowhere

    -- however it leaves, by what is known of the board then
    leaves_by :
        {A : Board → Type 0}
        → ((c : Board) → Left b (noted b h first second third) h c → A c)
        → A (changes b (leave_changes b h route pushes))
    unfolding leave_changes
    leaves_by {A} k =
        either (doomed b h)
        (λ d.
        simp d (k (changes b (doom_changes b h route)) (doom (group_force b h) route (is_run_lem route pushes part14 d).1)))
        (λ d.
        either (has_route b h)
        (λ s. simp (d, s) (k (changes b (retreat_changes b h route)) (off (group_force b h) route (is_legal route pushes vacant14 d s).0)))
        (λ s.
        simp (d, s)
        (k (changes b (push_changes b h route pushes)) (pushed (group_force b h) (group_own l h) route pushes (is_pushed route pushes pushed17 d s)))))

    -- an accepted retreat leaves fewer that owe
    pub retreat_lightens : Lighter b (changes b (leave_changes b h route pushes))
    retreat_lightens = leaves_by {A = Lighter b} (λ c o. lighter first second third o)

    lawful_retreat : Lawful (changes b (then_on b (leave_changes b h route pushes)))
    unfolding then_on
    lawful_retreat =
        let xs = leave_changes b h route pushes in
        rw (changes_then xs (passes_on (changes b xs)) b)
        (leaves_by {A = λ c. Lawful (changes c (passes_on c))} (λ c o. lawful_left first second third o))

module _ {p : List ℕ} (a : Accepted p) (h : ℕ) (route pushes : List ℕ) where
  pub retreat_keeps : {l : List ℕ} → Kept p l (retreat_rule (board p) h route pushes)
  unfolding retreat_rule on_map_all on_map_from off_map
  retreat_keeps =
      let b = board p in
      kept_past a (ltb 3 (length route))
      (λ _.
      kept_past a (ltb 9 (length pushes))
      (λ _.
      kept_past a (leb b.map.hexes h)
      (λ _.
      kept_along a (λ _. Unit {0}) (λ s x k v _ f. kept_past a (leb b.map.hexes x) (λ _. f tt)) 0 tt route 1 _
      (λ _ _.
      kept_along a (λ _. Unit {0}) (λ s x k v _ f. kept_past a (leb b.map.hexes x) (λ _. f tt)) 0 tt pushes (length route + 1) _
      (λ _ _.
      kept_past a (not (eqb b.desk.battle.stage Stage.retreats))
      (λ e.
      kept_past a (not (any (owes_at b h) b.units.count))
      (λ f.
      kept_past a (not_part b h route pushes)
      (λ d.
      kept_past a (not_vacant b h route pushes)
      (λ g.
      kept_past a (not_pushed b h route pushes)
      (λ i.
      let s = any_some (owes_at b h) b.units.count (not-false (any (owes_at b h) b.units.count) f) in
      kept_ruled a (then_on b (leave_changes b h route pushes))
      (lawful_retreat a.lawful (omega (arith, hexes_most a.shaped))
      (eqb-true b.desk.battle.stage Stage.retreats (not-false (eqb b.desk.battle.stage Stage.retreats) e))
      h
      s.at
      (s.below, s.passes)
      route
      pushes
      d
      g
      i)))))))))))
