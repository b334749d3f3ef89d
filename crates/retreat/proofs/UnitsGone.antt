-- The units of a group that retreats arrive or are eliminated, and everybody else is where the pushes bring him.
-- Assumes nothing.
use Prim.Native.Nat.{ℕ, ◌-◌, ◌≤◌, ◌<◌}
use mathlib.Core.Path.{◌≡◌, refl, sym, ap, subst, ◌∙◌}
use mathlib.Core.Bool.{Bool, true, false, cond}
use mathlib.Core.List.{List, [], ◌∷◌}
use native.Mathlib.Omega.{arith}
use borrow.Author.Tests.{eq-eqb, ne_eqb}
use lib.ListN.{get_or, length}
use Rattle.position.specs.Board.{Board, board, nowhere}
use Rattle.position.specs.Crowd.{owes_at}
use Rattle.position.specs.Kind.{supply_kind}
use Rattle.position.specs.Shape.{In}
use Rattle.position.specs.Change.Change.{placed}
use Rattle.position.specs.Effect.{change, changes}
use Rattle.position.proofs.Changes.{board_makes}
use Rattle.position.proofs.Shapes.{hexes_most}
use Rattle.acceptance.proofs.Carries.{Fixed, changes_then, fixed_change}
use Rattle.acceptance.proofs.Fates.{Same, assigned_none}
use Rattle.acceptance.proofs.Lawfuls.{standable_on}
use Rattle.acceptance.proofs.Stills.{fixed_refl}
use Rattle.ruling.proofs.Checks.{checked}
use Rattle.field.proofs.Named.{sieve_names}
use Rattle.routes.specs.Run.{LegalRoute}
use Rattle.chains.specs.Series.{LegalSeries}
use Rattle.shoves.specs.Group.{gather, group, group_force}
use Rattle.aftermath.specs.Stage.{passes_on, then_on}
use Rattle.retreat.specs.Retreat.{end_of, goes_off, leaves, note_of, push_changes, retreat_changes}
use Rattle.retreat.specs.Units.{AllGone, Arrived, Eliminated, GoneRight}
use Rattle.retreat.specs.Words.{Due, board_after}
use Rattle.retreat.proofs.Carried.{placed_put}
use Rattle.retreat.proofs.Dealt.{
  Lasts,
  arrived_same,
  dealt,
  destroyed_eliminated,
  eliminated_same,
  lasts_arrived,
  lasts_eliminated,
  missed,
  same_eliminated,
  sieve_not,
}
use Rattle.retreat.proofs.Fates.{Goes}
use Rattle.retreat.proofs.KeepGroup.{Owes, group_own}
use Rattle.retreat.proofs.KeepRetreat.{far_start, is_legal, is_pushed, noted_own, noted_stand, pushed_since, real}
use Rattle.retreat.proofs.KeepRoute.{refuge_stands, run_refuge}
use Rattle.retreat.proofs.Leaving.{gather_leaves, own_leaves}
use Rattle.retreat.proofs.Marched.{Marched, series_marched}
use Rattle.retreat.proofs.Noted.{brought_none, brought_noted}
use Rattle.retreat.proofs.Rulings.{ends_going}
use Rattle.retreat.proofs.Words.{goes_by, passes_due}
use Rattle.retreat.proofs.UnitsLost.{not_member, noted, noted_count, noted_map, noted_same, passed_same}

-- the group goes along a vacant route to hex `end`
module _ (b : Board) (h : ℕ) (route : List ℕ) (end : ℕ) (i : end ≡ end_of b route) where
  abbrev strolled : Board
  strolled = changes b (retreat_changes b h route)

  strolls_all : strolled ≡ changes (noted b h route) (gather (leaves b end) (group b h))
  unfolding retreat_changes changes
  strolls_all = ap (changes (noted b h route)) (ap (λ (x : ℕ). goes_off b x (group b h)) (sym i) ∙ sym (gather_leaves b end (group b h)))

  -- what becomes of each of them by what becomes of one
  strolls_by :
      {R : Board → Board → Type 0} (u : ℕ) → Lasts u R → u < b.units.count → owes_at b h u ≡ true
      → ((c : Board) → Fixed (noted b h route) c → R c (changes c (leaves b end u))) → R (noted b h route) strolled
  unfolding group
  strolls_by u l n e one =
      rw strolls_all
      (dealt (leaves b end) (own_leaves b end) u l one (group b h) (noted b h route) (fixed_refl (noted b h route))
      (sieve_names (owes_at b h) b.units.count u n e))

  leaves_walks :
      (c : Board) (u : ℕ) → (b.units.counter.kind u ≡ supply_kind → ⊥) → u < c.units.count → end < c.map.hexes
      → Arrived (changes c (leaves b end u)) u end
  unfolding leaves changes
  leaves_walks c u k l m =
      let d = change c (placed u end) in
      let y = assigned_none d u (omega (arith, (fixed_change c (placed u end)).count)) in
      simp (ne_eqb (b.units.counter.kind u) supply_kind k)
      (record { there = y.hex ∙ (placed_put c u end l m).0; role = y.role })

  leaves_supply :
      (c : Board) (u : ℕ) → b.units.counter.kind u ≡ supply_kind → u < c.units.count → Eliminated c (changes c (leaves b end u)) u
  unfolding leaves changes
  leaves_supply c u k l = simp (eq-eqb (b.units.counter.kind u) supply_kind k) (destroyed_eliminated c u l)

  strolls_others : (w : ℕ) → owes_at b h w ≡ false → Same (noted b h route).units strolled.units w
  unfolding group
  strolls_others w e =
      rw strolls_all
      (missed (leaves b end) (own_leaves b end) w (group b h) (noted b h route) (sieve_not (owes_at b h) b.units.count w e))

-- the same, of a position
module _ (p : List ℕ) (h end : ℕ) (route : List ℕ) (i : end ≡ end_of (board p) route) (m : end < (board p).map.hexes) where
  strolls_gone : AllGone p h end route [] (strolled (board p) h route end i)
  strolls_gone =
      let b = board p in
      let n = noted b h route in
      let far : (c : Board) → Fixed n c → end < c.map.hexes = λ c f. rw (f.map, noted_map b h route) m in
      let on : (c : Board) (u : ℕ) → Fixed n c → u < b.units.count → u < c.units.count =
      λ c u f l. omega (arith, f.count, noted_count b h route)
      in
      record {
        walkers =
            λ u x k.
            strolls_by b h route end i u (lasts_arrived u end) x.counted x.owes
            (λ c f. leaves_walks b h route end i c u k (on c u f x.counted) (far c f));
        supplies =
            λ u x k.
            same_eliminated (noted_same b h route u)
            (strolls_by b h route end i u (lasts_eliminated u) x.counted x.owes
            (λ c f. leaves_supply b h route end i c u k (on c u f x.counted)));
        others =
            λ w l k.
            (strolls_others b h route end i w (not_member b h w l k)).hex
            ∙ (noted_same b h route w).hex
            ∙ sym (brought_none route b h (b.units.state.hex w));
      }

-- the last hex of a route that is not empty
last_hex :
    (h : ℕ) (route : List ℕ) (n : ℕ) → length route ≡ n → 1 ≤ n → get_or (h ∷ route) (length route) nowhere ≡ get_or route (n - 1) nowhere
last_hex h [] n e l = absurd (omega arith)
last_hex h (x ∷ xs) n e l = let z : length xs ≡ n - 1 = omega arith in ap (λ (k : ℕ). get_or (x ∷ xs) k nowhere) z

-- the group pushes
module _ (p : List ℕ) (h : ℕ) (route pushes : List ℕ) where
  abbrev shoved : Board
  shoved = changes (board p) (push_changes (board p) h route pushes)

  pushes_gone :
      (end : ℕ) → end ≡ get_or (h ∷ route) (length route) nowhere → 1 ≤ length route → Marched (noted (board p) h route) h route pushes shoved
      → AllGone p h end route pushes shoved
  unfolding change note_of owes_at
  pushes_gone end i m x =
      record {
        walkers = λ u y k. rw i (x.walkers u y.counted y.owes k);
        supplies = λ u y k. same_eliminated (noted_same (board p) h route u) (x.supplies u y.counted y.owes k m);
        others =
            λ w l k.
            x.others w l (not_member (board p) h w l k) ∙ brought_noted (board p) h route route pushes ((board p).units.state.hex w);
      }

-- and then the stage passes on
passed_gone :
    (p : List ℕ) (h end : ℕ) (route pushes : List ℕ) (c : Board) → AllGone p h end route pushes c
    → AllGone p h end route pushes (changes c (passes_on c))
passed_gone p h end route pushes c x =
    record {
      walkers = λ u y k. arrived_same (x.walkers u y k) (passed_same c u);
      supplies = λ u y k. eliminated_same (x.supplies u y k) (passed_same c u);
      others = λ w l n. (passed_same c w).hex ∙ x.others w l n;
    }

module _ {p : List ℕ} {h : ℕ} {route pushes : List ℕ} (d : Due p h route pushes) where
  abbrev most : (board p).map.hexes ≤ nowhere
  most = omega (arith, hexes_most d.whole.shaped)

  abbrev owed : In 1 (board p).desk.battle.owed 3
  owed = (d.whole.lawful.stage.during.retreats d.stage).owed

  here : Owes (board p) h d.unit
  here = (d.counted, d.owes)

  -- the end of a vacant route is on the map
  end_on : LegalRoute (board p) (group_force (board p) h) h (board p).desk.battle.owed route → end_of (board p) route < (board p).map.hexes
  unfolding end_of
  end_on r =
      let b = board p in
      let i = b.desk.battle.owed - 1 in
      let v = run_refuge most r.run i (omega (arith, r.long, owed.low)) in
      standable_on b (get_or route i nowhere) (refuge_stands b (group_force b h) (get_or route i nowhere) v)

  -- the march of a legal series, from the board on which its route is noted
  marched :
      LegalSeries (board p) (group_force (board p) h) h (board p).desk.battle.owed route pushes
      → Marched (noted (board p) h route) h route pushes (shoved p h route pushes)
  unfolding push_changes note_of changes
  marched r =
      let b = board p in
      let l = d.whole.lawful in
      let f = group_force b h in
      let x = get_or route 0 nowhere in
      let y = get_or route 1 nowhere in
      let z = get_or route 2 nowhere in
      let own = group_own l h in
      series_marched f most (pushed_since l most d.stage h d.unit here f own route pushes r)
      (real l most d.stage h d.unit here) (noted_own b h x y z f own) (far_start b h) r.series (noted_stand b h x y z f)

  -- however the group goes
  gone :
      (r : Bool) → Goes (board p) h route pushes r
      → AllGone p h (end_of (board p) route) route pushes
      (changes (board p) (cond r (retreat_changes (board p) h route) (push_changes (board p) h route pushes)))
  unfolding end_of
  gone true g =
      let b = board p in
      let end = end_of b route in
      let q = is_legal d.whole.lawful most d.stage h d.unit here route pushes g.vacant g.spared g.way in
      subst (λ (ps : List ℕ). AllGone p h end route ps (changes b (retreat_changes b h route))) (sym q.1)
      (strolls_gone p h end route refl (end_on q.0))
  gone false g =
      let b = board p in
      let n = b.desk.battle.owed in
      let r = is_pushed d.whole.lawful most d.stage h d.unit here route pushes g.pushed g.spared g.way in
      pushes_gone p h route pushes (end_of b route) (sym (last_hex h route n r.long owed.low)) (omega (arith, r.long, owed.low))
      (marched r)

  -- the board that an accepted retreat leaves
  after_gone :
      (r : Bool) → Goes (board p) h route pushes r
      → board_after p h route pushes
      ≡ (let c = changes (board p) (cond r (retreat_changes (board p) h route) (push_changes (board p) h route pushes)) in
      changes c (passes_on c))
  unfolding then_on
  after_gone r g =
      let b = board p in
      let xs = cond r (retreat_changes b h route) (push_changes b h route pushes) in
      ap board (sym (checked d.whole (ends_going h route pushes (passes_due d) g refl refl)).leaves)
      ∙ board_makes d.whole.shaped (then_on b xs)
      ∙ changes_then xs (passes_on (changes b xs)) b

pub gone_right : GoneRight
gone_right p h end route pushes d a =
    let w = goes_by d a in
    let b = board p in
    let r = w.0.0 in
    let g = w.0.1 in
    subst (λ (x : ℕ). AllGone p h x route pushes (board_after p h route pushes)) (sym w.1)
    (rw (after_gone d r g)
    (passed_gone p h (end_of b route) route pushes
    (changes b (cond r (retreat_changes b h route) (push_changes b h route pushes)))
    (gone d r g)))
