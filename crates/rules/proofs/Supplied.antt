-- In supply exactly if the chain exists: of the mark that the end of a phase leaves, and of who fights at half strength.
-- Assumes nothing.
use Prim.Native.Nat.{ℕ, zero, suc, ◌/◌, ◌%◌, ◌<◌}
use mathlib.Core.Path.{◌≡◌, refl, sym, ap, ◌∙◌}
use mathlib.Core.Bool.{Bool, true, false, cond}
use mathlib.Core.List.{List, [], ◌∷◌}
use mathlib.Core.Logic.{◌↔◌}
use native.Mathlib.Omega.{arith}
use borrow.Author.Tests.{eq-eqb, ne_eqb}
use Rattle.clock.specs.Clock.{next_clock, judges_supply}
use Rattle.position.specs.Bits.{has, with, without, faced, supplied}
use Rattle.position.specs.Kind.{force, home, us, canada}
use Rattle.position.specs.Board.{Board, board, force_of, nowhere}
use Rattle.position.specs.Change.{Change, makes}
use Rattle.position.specs.Change.Change.{marked, timed}
use Rattle.position.specs.Effect.{change, changes}
use Rattle.position.proofs.BitLaws.{bit_same}
use Rattle.position.proofs.Changes.{board_makes}
use Rattle.position.proofs.Effects.{upd_there, upd_else}
use Rattle.position.proofs.Tallies.{either, not_both, same_or}
use Rattle.acceptance.proofs.Carries.{changes_then, fixed_change}
use Rattle.acceptance.proofs.Stills.{fixed_changes}
use Rattle.ruling.specs.Answers.{IsAccepted}
use Rattle.ruling.specs.Values.{Values}
use Rattle.ruling.specs.Verdict.{Verdict, after_check, judged, outcome}
use Rattle.ruling.specs.Verdict.Judge.{rule}
use Rattle.ruling.specs.Verdict.Verdict.{refuse_if, judge}
use Rattle.field.specs.Scene.{scene}
use Rattle.field.proofs.Workings.{working_whole, working_half}
use Rattle.supply.specs.Supply as Supply
use Rattle.supply.proofs.Supplies.{supplied_right}
use Rattle.march.specs.EndPhase.{rested, rest_all, judged_marks, mapped_of, judge_all, judge_force, supply_changes, end_changes, end_rule}
use Rattle.battle.specs.Line.{fighter, strength_of}
use Rattle.rules.specs.Order.{rule_of, verdict, step}
use Rattle.rules.specs.Order.Order.{end_phase}
use Rattle.rules.specs.Supplied.{InSupply, Mapped, MarkedRight, HalvedRight, InSupplyRight}

-- the test for supply, where unit u stands
abbrev supplied_at : Board → ℕ → Bool
supplied_at b u = Supply.supplied (scene b) (b.units.counter.nationality u) (b.units.state.hex u)

unit_right : (b : Board) (u : ℕ) → (supplied_at b u ≡ true) ↔ InSupply b u
unit_right b u = supplied_right (scene b) (b.units.counter.nationality u) (b.units.state.hex u)

-- the supplied mark set or cleared is seen, whatever face the unit shows
faced_supplied : (old m : ℕ) → has supplied (faced old m) ≡ has supplied m
unfolding faced
faced_supplied old m = bit_same supplied (faced old m) m (omega arith)

set_or_cleared : (t : Bool) (m : ℕ) → has supplied (cond t (with supplied m) (without supplied m)) ≡ t
unfolding has with without
set_or_cleared true m = eq-eqb (with supplied m / 2 % 2) 1 (omega arith)
set_or_cleared false m = ne_eqb (without supplied m / 2 % 2) 1 (λ e. omega arith)

-- the supplied mark of unit u on board d tells whether the unit is in supply on board b
abbrev MarkTells : Board → ℕ → Board → Type 0
MarkTells b u d = has supplied (d.units.state.marks u) ≡ supplied_at b u

-- "3 and 4 form force 3", and every other nationality is its force
canada_home : (n : ℕ) → n ≡ canada → force n ≡ home
unfolding force
canada_home n e = simp (eq-eqb n canada e)

own_force : (n : ℕ) → (n ≡ canada → ⊥) → force n ≡ n
unfolding force
own_force n d = simp (ne_eqb n canada d)

module _ {b : Board} {u : ℕ} (there : Mapped b u) where
  -- whatever changes, the unit is still there
  still_there : (d : Board) (xs : List Change) → u < d.units.count → u < (changes d xs).units.count
  still_there d xs n = omega (arith, (fixed_changes xs d).count)

  -- after a unit is judged: it is unit u, or the mark told before
  tells_unit :
      (d : Board) (w : ℕ) → u < d.units.count → ((u ≡ w → ⊥) → MarkTells b u d)
      → MarkTells b u (changes d (marked w (judged_marks b w) ∷ []))
  unfolding changes change judged_marks
  tells_unit d w n told =
      let s = d.units.state.marks in
      let m = judged_marks b w in
      same_or u w
      (λ e.
      rw e
      (ap (has supplied) (upd_there d.units.count s w (faced (s w) m) (omega arith))
      ∙ faced_supplied (s w) m
      ∙ set_or_cleared (supplied_at b w) (rested (b.units.state.marks w))))
      (λ e. ap (has supplied) (upd_else d.units.count s w (faced (s w) m) u (λ _ z. e z)) ∙ told e)

  -- unit u is judged with its nationality
  own_mapped : (n : ℕ) → b.units.counter.nationality u ≡ n → mapped_of b n u ≡ true
  unfolding mapped_of
  own_mapped n e = simp (eq-eqb (b.units.counter.nationality u) n e, ne_eqb (b.units.state.hex u) nowhere there.stands)

  tells_cond :
      (d : Board) (t : Bool) (w : ℕ) → u < d.units.count → ((t ≡ true → u ≡ w → ⊥) → MarkTells b u d)
      → MarkTells b u (changes d (cond t (marked w (judged_marks b w) ∷ []) []))
  unfolding changes
  tells_cond d true w n told = tells_unit d w n (λ h. told (λ _. h))
  tells_cond d false w n told = told (λ e. not_both false e refl)

  -- after the mapped units of a nationality below k are judged: unit u is one of them, or the mark told before
  tells_nation :
      (d : Board) (n k : ℕ) → u < d.units.count → ((u < k → b.units.counter.nationality u ≡ n → ⊥) → MarkTells b u d)
      → MarkTells b u (changes d (judge_all b n k))
  unfolding judge_all changes
  tells_nation d n zero c told = told (λ l. absurd (omega arith))
  tells_nation d n (suc k) c told =
      let xs = judge_all b n k in
      rw (changes_then xs (cond (mapped_of b n k) (marked k (judged_marks b k) ∷ []) []) d)
      (tells_cond (changes d xs) (mapped_of b n k) k (still_there d xs c)
      (λ h.
      tells_nation d n k c
      (λ g.
      told
      (λ l e.
      same_or u k
      (λ z. h (ap (mapped_of b n) (sym z) ∙ own_mapped n e) z)
      (λ z. g (omega arith) e)))))

  -- after the units of its force are judged
  tells_force : (d : Board) (f : ℕ) → u < d.units.count → force_of b u ≡ f → MarkTells b u (changes d (judge_force b f))
  unfolding judge_force force_of
  tells_force d f n e =
      let k = b.units.count in
      let nation = b.units.counter.nationality u in
      let first = judge_all b us k in
      same_or f home
      (λ z.
      simp (eq-eqb f home z)
      (rw (changes_then first (judge_all b canada k) d)
      (tells_nation (changes d first) canada k (still_there d first n)
      (λ h.
      tells_nation d us k n
      (λ g. absurd (g there.counted (sym (own_force nation (h there.counted)) ∙ e ∙ z)))))))
      (λ z.
      simp (ne_eqb f home z)
      (tells_nation d f k n
      (λ h. absurd (h there.counted (sym (own_force nation (λ c. z (sym e ∙ canada_home nation c))) ∙ e)))))

  -- and so after the end of a phase
  tells_end :
      judges_supply (next_clock b.desk.clock) ≡ true → force_of b u ≡ (next_clock b.desk.clock).force
      → MarkTells b u (changes b (end_changes b))
  unfolding end_changes supply_changes changes
  tells_end j e =
      let c = next_clock b.desk.clock in
      let rest = rest_all b b.units.count in
      let x = timed c.turn c.force c.phase in
      let d = change (changes b rest) x in
      rw (changes_then rest (x ∷ supply_changes b c) b)
      (simp j (tells_force d c.force (omega (arith, (fixed_change (changes b rest) x).count, still_there b rest there.counted)) e))

-- where a verdict is accepted it leaves the position q
record Leaves (p l : List ℕ) (v : Verdict) (q : List ℕ) : Type 0 where
  leaves : IsAccepted (outcome p l v).answer → (outcome p l v).position ≡ q

leaves_past : {p l q : List ℕ} {v : Verdict} {n k : ℕ} {t : Bool} → Leaves p l v q → Leaves p l (refuse_if t n k v) q
unfolding outcome
leaves_past {t = true} f = record { leaves = λ i. absurd i }
leaves_past {t = false} f = record { leaves = λ i. f.leaves i }

leaves_ruled : {p l m : List ℕ} {vs : Values} {xs : List Change} → Leaves p l (judge (rule vs xs m)) (makes p xs)
unfolding outcome judged
leaves_ruled = record { leaves = λ i. refl }

end_leaves : (p l : List ℕ) → Leaves p l (verdict p end_phase l) (makes p (end_changes (board p)))
unfolding rule_of end_rule after_check
end_leaves p l = leaves_past (leaves_past (leaves_past (leaves_past leaves_ruled)))

marked_right : MarkedRight
marked_right p l u a i j there e =
    let b = board p in
    let t : MarkTells b u (board (step p (record { order = end_phase; lent = l })).position) =
    ap (λ (d : Board). has supplied (d.units.state.marks u))
    (ap board ((end_leaves p l).leaves i) ∙ board_makes a.shaped (end_changes b))
    ∙ tells_end there j e
    in
    let r = unit_right b u in
    (λ x. r.0 (sym t ∙ x), λ x. t ∙ r.1 x)

halved_right : HalvedRight
unfolding fighter strength_of
halved_right b u printed =
    let r = unit_right b u in
    record {
      whole = λ s. working_whole b u (supplied_at b u) printed (r.1 s);
      halved = λ n. working_half b u (supplied_at b u) printed (either (supplied_at b u) (λ e. absurd (n (r.0 e))) (λ e. e));
    }

pub in_supply_right : InSupplyRight
in_supply_right = record { marked = marked_right; halved = halved_right }
