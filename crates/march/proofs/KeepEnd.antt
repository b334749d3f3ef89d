-- An accepted position stays accepted after the end of a phase.
-- Assumes nothing.
use Prim.Native.Nat.{ℕ, zero, suc, ◌≤◌, ◌<◌}
use mathlib.Core.Path.{◌≡◌, refl, sym, ap, ◌∙◌}
use mathlib.Core.Bool.{Bool, true, false, not, cond}
use mathlib.Core.List.{List, [], ◌∷◌, ◌++◌}
use native.Mathlib.Omega.{arith}
use lib.ListN.{length}
use lib.Dec.{eqb}
use borrow.Author.Tests.{eqb-true, eqb-false, not-true, not-false}
use Rattle.position.specs.Bits.{with, without, tried, supplied, marks_end}
use Rattle.position.specs.Board.{Board, board, nowhere}
use Rattle.acceptance.specs.Accepted.{Lawful, Accepted}
use Rattle.position.specs.Change.{Change}
use Rattle.position.specs.Change.Change.{marked, timed}
use Rattle.position.specs.Effect.{change, changes}
use Rattle.position.specs.Stage as Stage
use Rattle.field.specs.Scene.{scene}
use Rattle.supply.specs.Supply as Supply
use Rattle.clock.specs.declared.Clock.{Clock}
use Rattle.clock.specs.Clock.{next_clock, is_last, judges_supply}
use Rattle.clock.proofs.Turns.{next_timely, next_turn}
use Rattle.acceptance.proofs.Clocks.{timely}
use Rattle.march.specs.EndPhase.{
  rested,
  rest_all,
  judged_marks,
  mapped_of,
  judge_all,
  judge_force,
  supply_changes,
  end_changes,
  end_rule,
}
use Rattle.acceptance.proofs.Carries.{changes_then}
use Rattle.acceptance.proofs.Lawfuls.{Markable, lawful_marked, lawful_timed}
use Rattle.position.proofs.BitLaws.{with_within, without_within}
use Rattle.position.proofs.BitLaws.UnitMark.{is_supplied, is_moved, is_fought}
use Rattle.position.proofs.Tallies.{both_yes}
use Rattle.ruling.proofs.Kept.{Kept, kept_past, kept_ruled}

-- changes of marks, each of which suits its unit as it stands on board b
data Markings (b : Board) : List Change → Type 0 where
  none : Markings b []
  more : {u m : ℕ} {xs : List Change} → Markable b u m → Markings b xs → Markings b (marked u m ∷ xs)

markings_then : {b : Board} {xs ys : List Change} → Markings b xs → Markings b ys → Markings b (xs ++ ys)
markings_then none t = t
markings_then (more k s) t = more k (markings_then s t)

markings_cond : {b : Board} {xs ys : List Change} (t : Bool) → (t ≡ true → Markings b xs) → Markings b ys → Markings b (cond t xs ys)
markings_cond true f s = f refl
markings_cond false f s = s

-- they leave a lawful board, where units stand as before and the desk is the same
record Marked (c d : Board) : Type 0 where
  lawful : Lawful d
  hex : d.units.state.hex ≡ c.units.state.hex
  desk : d.desk ≡ c.desk

all_marked : {b c : Board} {xs : List Change} → Markings b xs → Lawful c → c.units.state.hex ≡ b.units.state.hex → Marked c (changes c xs)
unfolding changes change
all_marked none l e = record { lawful = l; hex = refl; desk = refl }
all_marked {b} {c} (more {u} {m} k s) l e =
    let h : c.units.state.hex u ≡ b.units.state.hex u = λ i. e i u in
    let o = lawful_marked l u m (record { marks = k.marks; destroyed = λ z. k.destroyed (sym h ∙ z) }) in
    let r = all_marked {c = change c (marked u m)} s o e in
    record { lawful = r.lawful; hex = r.hex; desk = r.desk }

-- marks without moved and fought, and then with or without supplied
rested_small : (m : ℕ) → m < marks_end → rested m < marks_end
unfolding rested
rested_small m l = without_within is_moved _ (without_within is_fought m l)

rested_bare : (m : ℕ) → m ≤ tried → rested m ≤ tried
unfolding rested without
rested_bare m l = omega arith

supplied_small : (t : Bool) (m : ℕ) → m < marks_end → cond t (with supplied m) (without supplied m) < marks_end
supplied_small true m l = with_within is_supplied m l
supplied_small false m l = without_within is_supplied m l

module _ {b : Board} (l : Lawful b) where
  rest_marks : (n : ℕ) → n ≤ b.units.count → Markings b (rest_all b n)
  unfolding rest_all
  rest_marks zero h = none
  rest_marks (suc n) h =
      let o = l.units.each n (omega arith) in
      let m = b.units.state.marks n in
      markings_then (rest_marks n (omega arith))
      (more
      (record {
        marks = rested_small m o.counter.marks;
        destroyed = λ e. rested_bare m (o.stand.destroyed e).marks;
      })
      none)

  judged_small : (u : ℕ) → u < b.units.count → judged_marks b u < marks_end
  unfolding judged_marks
  judged_small u h =
      supplied_small (Supply.supplied (scene b) (b.units.counter.nationality u) (b.units.state.hex u)) (rested (b.units.state.marks u))
      (rested_small (b.units.state.marks u) (l.units.each u h).counter.marks)

  mapped_of_lem : (n u : ℕ) → mapped_of b n u ≡ true → b.units.state.hex u ≡ nowhere → ⊥
  unfolding mapped_of
  mapped_of_lem n u e =
      eqb-false (b.units.state.hex u) nowhere
      (not-true (eqb (b.units.state.hex u) nowhere) (both_yes (eqb (b.units.counter.nationality u) n) (not (eqb (b.units.state.hex u) nowhere)) e).1)

  judge_marks : (n k : ℕ) → k ≤ b.units.count → Markings b (judge_all b n k)
  unfolding judge_all
  judge_marks n zero h = none
  judge_marks n (suc k) h =
      markings_then (judge_marks n k (omega arith))
      (markings_cond (mapped_of b n k)
      (λ e. more (record { marks = judged_small k (omega arith); destroyed = λ z. absurd (mapped_of_lem n k e z) }) none)
      none)

  supply_marks : (c : Clock) → Markings b (supply_changes b c)
  unfolding supply_changes judge_force
  supply_marks c =
      let each : (n : ℕ) → Markings b (judge_all b n b.units.count) = λ n. judge_marks n b.units.count (omega arith) in
      markings_cond (judges_supply c)
      (λ _. markings_cond (eqb c.force 3) (λ _. markings_then (each 3) (each 4)) (each c.force))
      none

module _ {b : Board} (l : Lawful b) where
  lawful_end : b.desk.battle.stage ≡ Stage.quiet → is_last b.desk.clock b.desk.last_turn ≡ false → Lawful (changes b (end_changes b))
  unfolding end_changes changes change
  lawful_end z e =
      let r = all_marked (rest_marks l b.units.count (omega arith)) l refl in
      let n = next_clock b.desk.clock in
      let c = l.clock in
      let k = next_timely b.desk.last_turn b.desk.clock (timely c) e in
      let t =
      lawful_timed r.lawful (ap (λ d. d.battle.stage) r.desk ∙ z) n.turn n.force n.phase
      (record { low = omega (arith, c.turn.low, next_turn b.desk.clock); high = omega (arith, c.last_turn.high, k.turn) })
      (rw r.desk k.turn) k.force k.phase
      in
      rw (changes_then (rest_all b b.units.count) (timed n.turn n.force n.phase ∷ supply_changes b n) b)
      (all_marked (supply_marks l n) t r.hex).lawful

pub end_keeps : {p : List ℕ} (l : List ℕ) → Accepted p → Kept p l (end_rule (board p) (length l))
unfolding end_rule
end_keeps {p} l a =
    let b = board p in
    kept_past a (not (eqb (length l) b.map.hexes))
    (λ _.
    kept_past a (not (eqb b.desk.battle.stage Stage.quiet))
    (λ z.
    kept_past a (is_last b.desk.clock b.desk.last_turn)
    (λ e.
    kept_ruled a (end_changes b)
    (lawful_end a.lawful (eqb-true b.desk.battle.stage Stage.quiet (not-false (eqb b.desk.battle.stage Stage.quiet) z)) e))))
