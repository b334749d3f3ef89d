-- A retreat goes on: the first group that owes is sent a legal route or series of pushes, or its part route where it is destroyed, and
-- fewer units owe afterwards.
-- Assumes nothing.
use Rattle.std.specs.Prelude.{Option, Some, None}
use Prim.Native.Nat.{ℕ, ◌≤◌, ◌<◌}
use mathlib.Core.Path.{◌≡◌, refl, sym, ap, subst, ◌∙◌}
use mathlib.Core.Bool.{true, false}
use mathlib.Core.List.{List, [], ◌∷◌}
use native.Mathlib.Omega.{arith}
use lib.ListN.{get_or, length, take}
use borrow.Author.Tests.{eqb-true}
use Rattle.position.specs.Board.{Board, board, nowhere}
use Rattle.position.specs.Crowd.{owing_hexes}
use Rattle.position.specs.Shape.{In}
use Rattle.position.specs.Effect.{changes}
use Rattle.position.specs.Tally.{any}
use Rattle.position.specs.Role as Role
use Rattle.position.specs.Stage as Stage
use Rattle.position.proofs.Shapes.{hexes_most}
use Rattle.position.proofs.Tallies.{both_yes, either, not_both, tally_pos, tally_some}
use Rattle.acceptance.specs.Accepted.{Accepted, Lawful}
use Rattle.acceptance.proofs.Lawfuls.{standable_on}
use Rattle.acceptance.proofs.Owings.{owes}
use Rattle.ruling.proofs.Meets.{pass, ruled}
use Rattle.field.specs.Listed.{Charted}
use Rattle.field.proofs.Lists.{sieve_at, sieve_long}
use Rattle.routes.specs.Run.{LegalRoute, Run, stay}
use Rattle.routes.specs.Part.{PartRoute, farthest}
use Rattle.routes.specs.Search.{Searched, first_route, found, route_of}
use Rattle.routes.proofs.First.{first_right, found_right}
use Rattle.routes.proofs.Legal.{legal_right}
use Rattle.routes.proofs.Part.{none_shorter, part_right, farthest_here, farthest_right}
use Rattle.chains.specs.Series.{LegalSeries}
use Rattle.chains.specs.Serves.{pushes_serve}
use Rattle.chains.proofs.Find.{find_right, series_charted, series_few}
use Rattle.chains.proofs.Follows.{legal_pushes_right}
use Rattle.shoves.specs.Group.{group_force}
use Rattle.aftermath.specs.Losses as Losses
use Rattle.aftermath.specs.Stage.{then_on}
use Rattle.retreat.specs.Retreat.{doomed, has_route, has_series, is_part, leave_changes, not_part, not_pushed, not_vacant, retreat_rule, walks_from}
use Rattle.retreat.specs.Words.{Due}
use Rattle.retreat.proofs.Fates.{part_supply, part_walks}
use Rattle.retreat.proofs.KeepGroup.{Owes, start_stands}
use Rattle.retreat.proofs.KeepRetreat.{retreat_lightens}
use Rattle.retreat.proofs.KeepRoute.{run_charted}
use Rattle.retreat.proofs.Words.{passes_due}
use Rattle.rules.specs.Order.{rule_of}
use Rattle.rules.specs.Order.Order.{retreat}
use Rattle.rules.specs.Onward.{all_owing, first_owing, last_road, left, pushed_for, pushes_for, retreat_onward, route_for, run_for, sent_route}
use Rattle.rules.proofs.OnwardCall.{Goes, goes_met}
use Rattle.rules.proofs.OnwardStage.{falls_then_on, left_retreats}

-- what the two questions ask
module _ (b : Board) (h : ℕ) where
  has_found : has_route b h ≡ true → found (first_route b (group_force b h) h b.desk.battle.owed) ≡ true
  unfolding has_route
  has_found e = e

  has_served : has_series b h ≡ true → pushes_serve b (group_force b h) h b.desk.battle.owed ≡ true
  unfolding has_series
  has_served e = e

  -- who is spared without a vacant route has a series
  spared_served : doomed b h ≡ false → has_route b h ≡ false → has_series b h ≡ true
  unfolding doomed
  spared_served e r =
      let w = any (walks_from b h) b.units.count in
      either (has_series b h) (λ s. s)
      (λ s. either w (λ y. not_both false (sym (simp (y, r, s) at e)) refl) (λ y. not_both false (sym (simp y at e)) refl))

  -- and who is destroyed though others than supply units owe has no vacant route
  lost_none : doomed b h ≡ true → any (walks_from b h) b.units.count ≡ true → found (first_route b (group_force b h) h b.desk.battle.owed) ≡ false
  unfolding doomed has_route
  lost_none e w =
      let t = found (first_route b (group_force b h) h b.desk.battle.owed) in
      either t (λ y. not_both false (simp (w, y) at e) refl) (λ y. y)

-- the first unit that owes, where a hex owes
module _ (b : Board) (some : 1 ≤ owing_hexes b) where
  abbrev leader : ℕ
  leader = get_or (all_owing b) 0 0

  some_owes : 1 ≤ length (all_owing b)
  unfolding owing_hexes all_owing Losses.owes
  some_owes =
      let s = tally_some _ b.units.count some in
      omega
      (arith, sieve_long (Losses.owes b) b.units.count, tally_pos (Losses.owes b) b.units.count s.at s.below (both_yes _ _ s.passes).0)

  leader_owes : Owes b (first_owing b) leader
  unfolding first_owing all_owing Losses.owes
  leader_owes =
      let k = sieve_at (Losses.owes b) b.units.count 0 (omega (arith, some_owes)) in
      (k.below, owes b leader (b.units.state.hex leader) (eqb-true (b.units.state.role leader) Role.owes k.passes) refl)

-- a route of n hexes, read off the three places of an answer
sent_same : (n : ℕ) (route : List ℕ) → length route ≡ n → n ≤ 3 → sent_route n (route_of route) ≡ route
unfolding sent_route
sent_same n [] e l = ap (λ (k : ℕ). take k (nowhere ∷ nowhere ∷ nowhere ∷ [])) (sym e)
sent_same n (x ∷ []) e l = ap (λ (k : ℕ). take k (x ∷ nowhere ∷ nowhere ∷ [])) (sym e)
sent_same n (x ∷ y ∷ []) e l = ap (λ (k : ℕ). take k (x ∷ y ∷ nowhere ∷ [])) (sym e)
sent_same n (x ∷ y ∷ z ∷ []) e l = ap (λ (k : ℕ). take k (x ∷ y ∷ z ∷ [])) (sym e)
sent_same n (x ∷ y ∷ z ∷ w ∷ route) e l = absurd (omega arith)

-- the route that was found, as it is sent
sent_legally : (b : Board) (f h n : ℕ) → n ≤ 3 → (y : Option (ℕ × ℕ × ℕ)) → found y ≡ true → Searched b f h n y → LegalRoute b f h n (sent_route n y)
unfolding sent_route
sent_legally b f h n l (Some (x, y, z)) t s =
    let k = s.1.legal in
    let e : s.0 ≡ sent_route n (Some (x, y, z)) = sym (sent_same n s.0 k.long l) ∙ ap (sent_route n) s.2 in
    subst (λ (r : List ℕ). LegalRoute b f h n r) e k
sent_legally b f h n l None t s = not_both false t refl

-- the run of as many steps as the group makes is legal where a legal route exists, and else a part route
module _ (b : Board) (h : ℕ) (l : b.desk.battle.owed ≤ 3) where
  run_legally : found (first_route b (group_force b h) h b.desk.battle.owed) ≡ true → LegalRoute b (group_force b h) h b.desk.battle.owed (run_for b h)
  unfolding run_for
  run_legally e =
      let f = group_force b h in
      let n = b.desk.battle.owed in
      rw (farthest_here b f h n e) (sent_legally b f h n l (first_route b f h n) e (first_right b f h n))

  part_legally : found (first_route b (group_force b h) h b.desk.battle.owed) ≡ false → PartRoute b (group_force b h) h (run_for b h)
  unfolding run_for
  part_legally e =
      let f = group_force b h in
      let n = b.desk.battle.owed in
      let k = farthest b f h n in
      let r = farthest_right b f h n e in
      record {
        steps = k;
        longest = r.0;
        run = sent_legally b f h k (omega (arith, r.1)) (first_route b f h k) ((found_right b f h k).1 r.0.some) (first_right b f h k);
      }

-- what a group is sent: its part route, a legal route or a legal series of pushes
data Given (b : Board) (h : ℕ) (route pushes : List ℕ) : Type 0 where
  lastly : doomed b h ≡ true → is_part b h route ≡ true → {last : ℕ} → Run b (group_force b h) h 0 h route last → length route ≤ 3 → pushes ≡ []
      → Given b h route pushes
  vacantly : doomed b h ≡ false → has_route b h ≡ true → LegalRoute b (group_force b h) h b.desk.battle.owed route → pushes ≡ []
      → Given b h route pushes
  pushing : doomed b h ≡ false → has_route b h ≡ false → LegalSeries b (group_force b h) h b.desk.battle.owed route pushes
      → Given b h route pushes

module _ {b : Board} (h : ℕ) (l : b.desk.battle.owed ≤ 3) {route pushes : List ℕ} where
  given_short : Given b h route pushes → (length route ≤ 3) × (length pushes ≤ 9)
  given_short (lastly d e k s q) = (s, rw q (omega arith))
  given_short (vacantly d e k q) = (omega (arith, k.long), rw q (omega arith))
  given_short (pushing d e k) = (omega (arith, k.long), series_few l k)

  given_charted : Given b h route pushes → Charted b route × Charted b pushes
  given_charted (lastly d e k s q) = (run_charted k, rw q (λ j i. absurd (omega arith)))
  given_charted (vacantly d e k q) = (run_charted k.run, rw q (λ j i. absurd (omega arith)))
  given_charted (pushing d e k) = series_charted k

  -- it is refused neither by 14 nor by 17
  given_part : Given b h route pushes → not_part b h route pushes ≡ false
  unfolding not_part
  given_part (lastly d e k s q) = simp (d, e, q)
  given_part (vacantly d e k q) = simp d
  given_part (pushing d e k) = simp d

  given_vacant : Given b h route pushes → not_vacant b h route pushes ≡ false
  unfolding not_vacant
  given_vacant (lastly d e k s q) = simp d
  given_vacant (vacantly d e k q) = simp (d, e, q, (legal_right b (group_force b h) h b.desk.battle.owed route).1 k)
  given_vacant (pushing d e k) = simp (d, e)

  given_pushed : Given b h route pushes → not_pushed b h route pushes ≡ false
  unfolding not_pushed
  given_pushed (lastly d e k s q) = simp d
  given_pushed (vacantly d e k q) = simp (d, e)
  given_pushed (pushing d e k) = simp (d, e, (legal_pushes_right b (group_force b h) h b.desk.battle.owed route pushes).1 k)

module _ {b : Board} (l : Lawful b) (most : b.map.hexes ≤ nowhere) (e : b.desk.battle.stage ≡ Stage.retreats) (h u : ℕ) (m : Owes b h u) where
  abbrev sent : List ℕ
  sent = route_for b h

  abbrev shoved : List ℕ
  shoved = pushes_for b h

  owed : In 1 b.desk.battle.owed 3
  owed = (l.stage.during.retreats e).owed

  is-last : doomed b h ≡ true → Given b h (last_road b h) []
  unfolding last_road
  is-last d =
      either (any (walks_from b h) b.units.count)
      (λ w.
      let z = lost_none b h d w in
      let r = part_legally b h owed.high z in
      let s = none_shorter b (group_force b h) h r.steps b.desk.battle.owed z r.longest.some in
      simp w
      (lastly d (part_walks b h (run_for b h) w ∙ (part_right b (group_force b h) h (run_for b h)).1 r) r.run.run
      (omega (arith, owed.high, r.run.long))
      refl))
      (λ w. simp w (lastly d (part_supply b h [] w) stay (omega arith) refl))

  is_given : Given b h sent shoved
  unfolding route_for pushes_for pushed_for
  is_given =
      let f = group_force b h in
      let n = b.desk.battle.owed in
      either (doomed b h)
      (λ d. simp d (is-last d))
      (λ d.
      either (has_route b h)
      (λ t.
      simp (d, t) (vacantly d t (run_legally b h owed.high (has_found b h t)) refl))
      (λ t. simp (d, t) (pushing d t (find_right b f h n (has_served b h (spared_served b h d t))))))

  retreat_falls : left (changes b (then_on b (leave_changes b h sent shoved))) < left b
  retreat_falls =
      let xs = leave_changes b h sent shoved in
      let g = is_given in
      let o = retreat_lightens l most e h u m sent shoved (given_part h owed.high g) (given_vacant h owed.high g) (given_pushed h owed.high g) in
      let k = left_retreats b e in
      falls_then_on xs o.since (omega arith) (λ _. omega arith)
      (λ _. omega (arith, left_retreats (changes b xs) o.stage, o.fewer))

module _ {p : List ℕ} (a : Accepted p) (e : (board p).desk.battle.stage ≡ Stage.retreats) where
  abbrev start : ℕ
  start = first_owing (board p)

  some : 1 ≤ owing_hexes (board p)
  some = (a.lawful.stage.during.retreats e).some

  due : Due p start (route_for (board p) start) (pushes_for (board p) start)
  due =
      let b = board p in
      let m = leader_owes b some in
      let most : b.map.hexes ≤ nowhere = omega (arith, hexes_most a.shaped) in
      let g = is_given a.lawful most e start (leader b some) m in
      let l = (owed a.lawful most e start (leader b some) m).high in
      record {
        whole = a;
        stage = e;
        there = standable_on b start (start_stands a.lawful start (leader b some) m);
        unit = leader b some;
        counted = m.0;
        owes = m.1;
        short = (given_short start l g).0;
        few = (given_short start l g).1;
        charted = (given_charted start l g).0;
        pushed = (given_charted start l g).1;
      }

  pub retreat_goes : Goes p (record { order = retreat_onward (board p); lent = [] })
  unfolding rule_of retreat_rule retreat_onward
  retreat_goes =
      let b = board p in
      let m = leader_owes b some in
      let most : b.map.hexes ≤ nowhere = omega (arith, hexes_most a.shaped) in
      let route = route_for b start in
      let pushes = pushes_for b start in
      let g = is_given a.lawful most e start (leader b some) m in
      let l = (owed a.lawful most e start (leader b some) m).high in
      goes_met a (record { order = retreat start route pushes; lent = [] })
      (then_on b (leave_changes b start route pushes))
      (passes_due due [] _ _ _ _
      (pass (given_part start l g) (pass (given_vacant start l g) (pass (given_pushed start l g) (ruled refl)))))
      (retreat_falls a.lawful most e start (leader b some) m)
