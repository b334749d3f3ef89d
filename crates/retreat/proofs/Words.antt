-- A group is destroyed exactly if neither a vacant route nor a series of pushes exists or only supply units owe, and it was sent its part
-- route; else what was sent is accepted exactly if it is legal.
-- Assumes nothing.
use Prim.Native.Nat.{ℕ, ◌≤◌}
use mathlib.Core.Bool.{Bool, ◌&&◌, false, not, true}
use mathlib.Core.List.{List, []}
use mathlib.Core.Logic.{◌↔◌, inl, inr}
use mathlib.Core.Path.{◌∙◌, ◌≡◌, ap, refl, sym}
use native.Mathlib.Omega.{arith}
use borrow.Author.Tests.{eq-eqb, eqb-true, not-false}
use lib.ListN.{length}
use lib.Dec.{eqb}
use Rattle.grid.specs.Map.{On}
use Rattle.position.proofs.Tallies.{any_false, any_never, any_true, both_yes, either, not_both}
use Rattle.position.specs.Layout.{hexes}
use Rattle.position.specs.Board.{Board, board}
use Rattle.position.specs.Crowd.{owes_at}
use Rattle.position.specs.Tally.{any}
use Rattle.ruling.specs.Judged.{Passes}
use Rattle.ruling.proofs.Checks.{checked}
use Rattle.ruling.specs.Values.{Manner, Values, retreated_to, eliminated}
use Rattle.ruling.specs.Values.Manner.{plain, fought, retreated, destroyed}
use Rattle.ruling.specs.Answers.{AnswersDestroyed, AnswersRetreated}
use Rattle.ruling.proofs.Meets.{no_refusal}
use Rattle.ruling.specs.Verdict.{Ruling}
use Rattle.ruling.specs.Verdict.Ruling.{accepted, refused}
use Rattle.field.proofs.Lists.{map_all}
use Rattle.field.specs.Listed.{on_map_all, on_map_from}
use Rattle.routes.proofs.First.{found_right}
use Rattle.routes.proofs.Legal.{legal_right}
use Rattle.routes.proofs.Part.{part_right}
use Rattle.routes.proofs.Words.{runs_as_worded}
use Rattle.routes.specs.Run.{LegalRoute, RouteExists}
use Rattle.routes.specs.Part.{PartRoute}
use Rattle.routes.specs.Words.{Worded}
use Rattle.routes.specs.Legal.{legal}
use Rattle.chains.proofs.Follows.{legal_pushes_right}
use Rattle.chains.proofs.Serves.{serves_right}
use Rattle.chains.specs.Follows.{none}
use Rattle.shoves.specs.Group.{group_force}
use Rattle.retreat.specs.Retreat.{doomed, end_of, group_checks, has_route, has_series, is_part, walks_from}
use Rattle.retreat.specs.Fate.{fate_of}
use Rattle.retreat.specs.Words.{
  DestroyedRight,
  Due,
  GroupRight,
  LegalFor,
  LongestRoad,
  OnlySupply,
  PartFor,
  Pushed,
  PushedRight,
  RetreatedRight,
  Trapped,
  TrappedRight,
  VacantRoute,
  answer_to,
}
use Rattle.retreat.specs.declared.Fate.{Fate}
use Rattle.retreat.specs.declared.Fate.TheVariants as F
use Rattle.retreat.proofs.Fates.{
  FateSays,
  Goes,
  doomed_neither,
  doomed_supply,
  fate_lost,
  fate_no_part,
  fate_no_pushes,
  fate_no_route,
  fate_pushing,
  fate_says,
  fate_vacant,
  fits,
  none_nil,
  part_supply,
  part_walks,
  parts,
  fits_pushed,
  spared_route,
  spared_series,
}
use Rattle.retreat.proofs.Groups.{passes_group, walks_kind, walks_not}
use Rattle.retreat.proofs.KeepGroup.{group_own}
use Rattle.retreat.proofs.Rulings.{ends_doomed, ends_going, stops_pushes, stops_route}

-- the group is asked for, and it is there
pub passes_due :
    {p : List ℕ} {h : ℕ} {route pushes : List ℕ} → Due p h route pushes → Passes p (group_checks (board p) h route pushes)
unfolding on_map_all on_map_from
passes_due {p} {h} {route} {pushes} d =
    (passes_group p (board p) h route pushes d.short d.few d.there (map_all 1 p route d.charted)
    (map_all _ p pushes d.pushed) d.stage
    (any_true (owes_at (board p) h) (board p).units.count d.unit d.counted d.owes)
    ).0

-- the hex is one of the map
pub on_due : {p : List ℕ} {h : ℕ} {route pushes : List ℕ} → Due p h route pushes → On (board p).map.width (board p).map.height h
unfolding hexes
on_due d =
    let s = d.whole.shaped in
    record { wide = s.width.low; wide64 = s.width.high; high = s.height.low; high64 = s.height.high; below = d.there }

-- two statements that say the same, and one of them the same as a third
via : {A B C : Type 0} → A ↔ B → B ↔ C → A ↔ C
via r s = (λ x. s.0 (r.0 x), λ z. r.1 (s.1 z))

-- routes and part routes in the document's words are runs and longest runs
module _ (b : Board) (f start : ℕ) (o : On b.map.width b.map.height start) where
  some_worded : (n : ℕ) → RouteExists b f start n ↔ ((route : List ℕ) × Worded b f start n route)
  some_worded n = (
    λ r. (r.0, (runs_as_worded b f start n r.0 o).0 r.1),
    λ r. (r.0, (runs_as_worded b f start n r.0 o).1 r.1),
  )

  own_length : {k : ℕ} {route : List ℕ} → LegalRoute b f start k route → LegalRoute b f start (length route) route
  own_length l = record { long = refl; last = l.last; run = l.run }

  part_worded : (route : List ℕ) → PartRoute b f start route ↔ LongestRoad b f start route
  part_worded route = (
    λ r.
        record {
          steps = (runs_as_worded b f start (length route) route o).0 (own_length r.run);
          most =
              λ other w.
              let m = r.longest.most (length other) (other, (runs_as_worded b f start (length other) other o).1 w) in
              omega (arith, m, r.run.long);
        },
    λ w.
        let l = (runs_as_worded b f start (length route) route o).1 w.steps in
        let most : (j : ℕ) → RouteExists b f start j → j ≤ length route =
        λ j r.
        let k = w.most r.0 ((runs_as_worded b f start (length r.0) r.0 o).0 (own_length r.1)) in omega (arith, k, r.1.long) in
        record { steps = length route; longest = record { some = (route, l); most = most }; run = l },
  )

-- each test is true exactly of what it asks for
module _ (b : Board) (h : ℕ) where
  only_supply : any (walks_from b h) b.units.count ≡ false → OnlySupply b h
  only_supply e u l o =
      let z = any_false (walks_from b h) b.units.count u e l in
      eqb-true (b.units.counter.kind u) 5 (not-false (eqb (b.units.counter.kind u) 5) (sym (walks_kind b h u o) ∙ z))

  none_walks : OnlySupply b h → any (walks_from b h) b.units.count ≡ false
  none_walks s =
      any_never (walks_from b h) b.units.count
      (λ u l.
      either (owes_at b h u)
      (λ e. walks_kind b h u e ∙ ap not (eq-eqb (b.units.counter.kind u) 5 (s u l e)))
      (λ e. walks_not b h u e))

  walks : (OnlySupply b h → ⊥) → any (walks_from b h) b.units.count ≡ true
  walks n = either (any (walks_from b h) b.units.count) (λ e. e) (λ e. absurd (n (only_supply e)))

  pub route_right : On b.map.width b.map.height h → (has_route b h ≡ true) ↔ VacantRoute b h
  unfolding has_route
  route_right o =
      via (found_right b (group_force b h) h b.desk.battle.owed) (some_worded b (group_force b h) h o b.desk.battle.owed)

  pub series_right : (has_series b h ≡ true) ↔ Pushed b h
  unfolding has_series
  series_right = serves_right b (group_force b h) h b.desk.battle.owed

-- a test that is true exactly of P fails exactly where P does not hold
fails : {P : Type 0} (t : Bool) → (t ≡ true) ↔ P → (t ≡ false) ↔ (P → ⊥)
fails t r = (λ e y. not_both t (r.1 y) e, λ n. either t (λ e. absurd (n (r.0 e))) (λ e. e))

-- the test is true exactly of the groups that are lost
module _ (b : Board) (h : ℕ) (o : On b.map.width b.map.height h) where
  lost : doomed b h ≡ true → Trapped b h
  lost e =
      either (any (walks_from b h) b.units.count)
      (λ w.
      inl (
        λ y. not_both (doomed b h) e (spared_route b h w ((route_right b h o).1 y)),
        λ y. not_both (doomed b h) e (spared_series b h w ((series_right b h).1 y)),
      ))
      (λ w. inr (only_supply b h w))

  pub lost_any : Trapped b h → doomed b h ≡ true
  lost_any (inl n) =
      doomed_neither b h ((fails (has_route b h) (route_right b h o)).1 n.0) ((fails (has_series b h) (series_right b h)).1 n.1)
  lost_any (inr s) = doomed_supply b h (none_walks b h s)

-- what is answered, by the group's fate
abbrev answer_of : ℕ → Fate → Ruling
answer_of end F.Lost = accepted eliminated
answer_of end F.WrongRoute = refused 14 0
answer_of end F.WrongPushes = refused 17 0
answer_of end F.Walking = accepted (retreated_to end)
answer_of end F.Pushing = accepted (retreated_to end)

module _ {p : List ℕ} {h : ℕ} {route pushes : List ℕ} (d : Due p h route pushes) where
  answers : (f : Fate) → FateSays (board p) h route pushes f → answer_to p h route pushes ≡ answer_of (end_of (board p) route) f
  answers F.Lost e = sym (checked d.whole (ends_doomed h route pushes (passes_due d) e refl)).answers
  answers F.WrongRoute e = sym (checked d.whole (stops_route h route pushes (passes_due d) e)).answers
  answers F.WrongPushes e = sym (checked d.whole (stops_pushes h route pushes (passes_due d) e.0 e.1 e.2)).answers
  answers F.Walking g = sym (checked d.whole (ends_going h route pushes (passes_due d) g refl refl)).answers
  answers F.Pushing g = sym (checked d.whole (ends_going h route pushes (passes_due d) g refl refl)).answers

  answered : {f : Fate} → fate_of (board p) h route pushes ≡ f → answer_to p h route pushes ≡ answer_of (end_of (board p) route) f
  answered e =
      answers (fate_of (board p) h route pushes) (fate_says (board p) h route pushes) ∙ ap (answer_of (end_of (board p) route)) e

-- answers of different kinds differ
abbrev rank : Manner → ℕ
rank plain = 1
rank fought = 2
rank retreated = 3
rank destroyed = 4

abbrev sort : Ruling → ℕ
sort (refused n k) = 0
sort (accepted vs) = rank vs.manner

-- the hex that is answered
abbrev place : Ruling → ℕ
place (refused n k) = 0
place (accepted vs) = vs.hex

-- which way a group goes that retreats, and where to
module _ {p : List ℕ} {h end : ℕ} {route pushes : List ℕ} (d : Due p h route pushes) (a : AnswersRetreated (answer_to p h route pushes) end) where
  abbrev pub Way : Type 0
  Way = ((r : Bool) × Goes (board p) h route pushes r) × (end ≡ end_of (board p) route)

  way :
      (f : Fate) → FateSays (board p) h route pushes f → sort (answer_of (end_of (board p) route) f) ≡ 3
      → end ≡ place (answer_of (end_of (board p) route) f) → Way
  way F.Lost e s t = absurd (omega arith)
  way F.WrongRoute e s t = absurd (omega arith)
  way F.WrongPushes e s t = absurd (omega arith)
  way F.Walking g s t = ((true, g), t)
  way F.Pushing g s t = ((false, g), t)

  pub goes_by : Way
  goes_by =
      let f = fate_of (board p) h route pushes in
      let g = fate_says (board p) h route pushes in
      let e = answers d f g in
      way f g (ap sort (sym e ∙ a.accepts) ∙ ap rank a.manner) (sym a.hex ∙ ap place (sym a.accepts ∙ e))

-- where the answer hangs on one test, a group retreats exactly if it holds, and what was sent is refused exactly if it does not
module _ {P : Type 0} {t : Bool} {x : Ruling} {n k : ℕ} (r : (t ≡ true) ↔ P) (no : t ≡ false → x ≡ refused n k) where
  when_yes : {end : ℕ} → (t ≡ true → x ≡ accepted (retreated_to end)) → AnswersRetreated x end ↔ P
  when_yes {end} told = (
    λ a. either t r.0 (λ z. absurd (no_refusal (sym a.accepts ∙ no z))),
    λ h. record { values = retreated_to end; accepts = told (r.1 h); manner = refl; hex = refl },
  )

  when_no : {vs : Values} → (t ≡ true → x ≡ accepted vs) → (x ≡ refused n k) ↔ (P → ⊥)
  when_no told = (λ e h. no_refusal (sym (told (r.1 h)) ∙ e), λ h. no ((fails t r).1 h))

-- a test of the route, and nothing beside it
with_none : {P : Type 0} (t : Bool) (pushes : List ℕ) → (t ≡ true) ↔ P → ((t && none pushes) ≡ true) ↔ P × (pushes ≡ [])
with_none t pushes r = (
  λ e. let z = both_yes t (none pushes) e in (r.0 z.0, none_nil pushes z.1),
  λ l. simp (r.1 l.0, ap none l.1),
)

-- of a hex of the map
module _ (b : Board) (h : ℕ) (o : On b.map.width b.map.height h) (route : List ℕ) where
  fits_right : (pushes : List ℕ) → (fits b h route pushes ≡ true) ↔ LegalFor b h route × (pushes ≡ [])
  fits_right pushes =
      let f = group_force b h in
      let n = b.desk.battle.owed in
      with_none (legal b f h n route) pushes (via (legal_right b f h n route) (runs_as_worded b f h n route o))

  part_for : (is_part b h route ≡ true) ↔ PartFor b h route
  part_for =
      let r = via (part_right b (group_force b h) h route) (part_worded b (group_force b h) h o route) in (
        λ e.
            record {
              others = λ n. r.0 (sym (part_walks b h route (walks b h n)) ∙ e);
              supply = λ s. none_nil route (sym (part_supply b h route (none_walks b h s)) ∙ e);
            },
        λ k.
            let w = any (walks_from b h) b.units.count in
            either w
            (λ y. part_walks b h route y ∙ r.1 (k.others (λ s. not_both w y (none_walks b h s))))
            (λ n. part_supply b h route n ∙ ap none (k.supply (only_supply b h n))),
      )

  pub parts_right : (pushes : List ℕ) → (parts b h route pushes ≡ true) ↔ PartFor b h route × (pushes ≡ [])
  parts_right pushes = with_none (is_part b h route) pushes part_for

pub destroyed_right : DestroyedRight
destroyed_right p h route pushes d =
    let b = board p in
    let o = on_due d in
    let x = answer_to p h route pushes in
    let other : (f : Fate) → x ≡ answer_of (end_of b route) f → (sort (answer_of (end_of b route) f) ≡ 4 → ⊥) → AnswersDestroyed x → ⊥ =
    λ f e k a. k (ap sort (sym e ∙ a.accepts) ∙ ap rank a.manner) in (
      λ a.
          either (doomed b h)
          (λ e.
          either (parts b h route pushes)
          (λ f. let k = (parts_right b h o route pushes).0 f in (lost b h o e, k.0, k.1))
          (λ f. absurd (other F.WrongRoute (answered d (fate_no_part b h route pushes e f)) (λ z. omega arith) a)))
          (λ e.
          absurd
          (either (has_route b h)
          (λ r.
          either (fits b h route pushes)
          (λ f. other F.Walking (answered d (fate_vacant b h route pushes e r f)) (λ z. omega arith) a)
          (λ f. other F.WrongRoute (answered d (fate_no_route b h route pushes e r f)) (λ z. omega arith) a))
          (λ r.
          either (fits_pushed b h route pushes)
          (λ f. other F.Pushing (answered d (fate_pushing b h route pushes e r f)) (λ z. omega arith) a)
          (λ f. other F.WrongPushes (answered d (fate_no_pushes b h route pushes e r f)) (λ z. omega arith) a)))),
      λ l.
          record {
            values = eliminated;
            accepts = answered d (fate_lost b h route pushes (lost_any b h o l.0) ((parts_right b h o route pushes).1 (l.1, l.2)));
            manner = refl;
          },
    )

pub trapped_right : TrappedRight
trapped_right p h route pushes d t =
    let b = board p in
    let o = on_due d in
    let e = lost_any b h o t in
    let yes : parts b h route pushes ≡ true → answer_to p h route pushes ≡ accepted eliminated =
    λ f. answered d (fate_lost b h route pushes e f) in
    let no : parts b h route pushes ≡ false → answer_to p h route pushes ≡ refused 14 0 =
    λ f. answered d (fate_no_part b h route pushes e f) in
    when_no (parts_right b h o route pushes) no yes

pub retreated_right : RetreatedRight
retreated_right p h route pushes d y n =
    let b = board p in
    let o = on_due d in
    let r = (route_right b h o).1 y in
    let e = spared_route b h (walks b h n) r in
    let yes : fits b h route pushes ≡ true → answer_to p h route pushes ≡ accepted (retreated_to (end_of b route)) =
    λ f. answered d (fate_vacant b h route pushes e r f) in
    let no : fits b h route pushes ≡ false → answer_to p h route pushes ≡ refused 14 0 =
    λ f. answered d (fate_no_route b h route pushes e r f) in
    record {
      retreats = when_yes (fits_right b h o route pushes) no yes;
      refuses = when_no (fits_right b h o route pushes) no yes;
    }

pub pushed_right : PushedRight
pushed_right p h route pushes d m y n =
    let b = board p in
    let r = (fails (has_route b h) (route_right b h (on_due d))).1 m in
    let e = spared_series b h (walks b h n) ((series_right b h).1 y) in
    let t = legal_pushes_right b (group_force b h) h b.desk.battle.owed route pushes in
    let yes : fits_pushed b h route pushes ≡ true → answer_to p h route pushes ≡ accepted (retreated_to (end_of b route)) =
    λ f. answered d (fate_pushing b h route pushes e r f) in
    let no : fits_pushed b h route pushes ≡ false → answer_to p h route pushes ≡ refused 17 0 =
    λ f. answered d (fate_no_pushes b h route pushes e r f) in
    record {
      retreats = when_yes t no yes;
      refuses = when_no t no yes;
    }

-- units of two forces do not both owe
pub group_right : GroupRight
group_right p h u y l o = group_own y.lawful h u l o
