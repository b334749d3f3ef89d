-- When a group is destroyed its road is on the desk: the start and a longest run, as long as the battle goes on.
-- Assumes nothing.
use Prim.Native.Nat.{ℕ, zero, suc, ◌≤◌}
use mathlib.Core.Path.{◌≡◌, refl, sym, ap, ◌∙◌}
use mathlib.Core.List.{List, ◌∷◌}
use native.Mathlib.Omega.{arith}
use lib.ListN.{get_or}
use Rattle.position.specs.Board.{Board, Desk, board, nowhere}
use Rattle.position.specs.Crowd.{routes}
use Rattle.position.specs.Effect.{change, changes, of_four}
use Rattle.position.specs.Stage as Stage
use Rattle.position.proofs.Changes.{board_makes}
use Rattle.position.proofs.Shapes.{hexes_most}
use Rattle.acceptance.proofs.Carries.{changes_then}
use Rattle.acceptance.proofs.Routings.{route_there}
use Rattle.ruling.proofs.Checks.{checked}
use Rattle.shoves.specs.Group.{group_force}
use Rattle.aftermath.specs.Stage.{passes_on, then_on}
use Rattle.aftermath.proofs.KeepStage.{passed_by}
use Rattle.retreat.specs.Retreat.{doom_changes}
use Rattle.retreat.specs.Words.{Due, RoadRight, board_after}
use Rattle.retreat.proofs.Fates.{Falls, falls_by}
use Rattle.retreat.proofs.KeepGroup.{Owes}
use Rattle.retreat.proofs.KeepRetreat.{doom, is_run_lem}
use Rattle.retreat.proofs.KeepRoute.{routes_room}
use Rattle.retreat.proofs.Rulings.{ends_doomed}
use Rattle.retreat.proofs.Words.{destroyed_right, lost_any, on_due, parts_right, passes_due}

-- the four numbers of a route are the start and the route's own
four :
    (h : ℕ) (route : List ℕ) (j : ℕ) → j ≤ 3
    → of_four j h (get_or route 0 nowhere) (get_or route 1 nowhere) (get_or route 2 nowhere) ≡ get_or (h ∷ route) j nowhere
four h route zero l = refl
four h route (suc zero) l = refl
four h route (suc (suc zero)) l = refl
four h route (suc (suc (suc zero))) l = refl
four h route (suc (suc (suc (suc j)))) l = absurd (omega arith)

-- a road is written on a board
abbrev Shown : ℕ → ℕ → List ℕ → Board → Type 0
Shown r h route c = (j : ℕ) → j ≤ 3 → c.desk.route r j ≡ get_or (h ∷ route) j nowhere

module _ {p : List ℕ} {h : ℕ} {route pushes : List ℕ} (d : Due p h route pushes) (g : Falls (board p) h route pushes) where
  abbrev fallen : Board
  fallen = changes (board p) (doom_changes (board p) h route)

  -- once the group is gone
  shown : Shown (routes (board p)) h route fallen
  shown j l =
      let b = board p in
      let k = d.whole.lawful in
      let most : b.map.hexes ≤ nowhere = omega (arith, hexes_most d.whole.shaped) in
      let m : Owes b h d.unit = (d.counted, d.owes) in
      let run = is_run_lem k most d.stage h d.unit m route pushes g.part g.lost in
      let gone = doom k most d.stage h d.unit m (group_force b h) route run.1 in
      ap (λ (desk : Desk). desk.route (routes b) j) gone.desk
      ∙ route_there b (routes b) h (get_or route 0 nowhere) (get_or route 1 nowhere) (get_or route 2 nowhere) (routes_room k d.stage) j
      ∙ four h route j l

  -- and when the stage has passed on, unless it is quiet
  passed : ((changes fallen (passes_on fallen)).desk.battle.stage ≡ Stage.quiet → ⊥) → Shown (routes (board p)) h route (changes fallen (passes_on fallen))
  unfolding change
  passed =
      passed_by (λ c. (c.desk.battle.stage ≡ Stage.quiet → ⊥) → Shown (routes (board p)) h route c) fallen
      (λ _ _ n. absurd (n refl))
      (λ _ _ _. shown)
      (λ _ _. shown)

  pub after : board_after p h route pushes ≡ changes fallen (passes_on fallen)
  unfolding then_on
  after =
      let b = board p in
      let xs = doom_changes b h route in
      ap board (sym (checked d.whole (ends_doomed h route pushes (passes_due d) g refl)).leaves)
      ∙ board_makes d.whole.shaped (then_on b xs)
      ∙ changes_then xs (passes_on (changes b xs)) b

pub road_right : RoadRight
road_right p h route pushes d a n =
    let b = board p in
    let o = on_due d in
    let q = (destroyed_right p h route pushes d).0 a in
    let g = falls_by b h route pushes (lost_any b h o q.0) ((parts_right b h o route pushes).1 (q.1, q.2)) in
    let e = after d g in
    record {
      longest = q.1;
      written = λ j l.
          ap (λ (c : Board). c.desk.route (routes b) j) e ∙ passed d g (λ z. n (ap (λ (c : Board). c.desk.battle.stage) e ∙ z)) j l;
    }
