-- What the end of a phase leaves on the desk: all but the clock.
-- Assumes nothing.
use Prim.Native.Nat.{ℕ, zero, suc}
use mathlib.Core.Path.{◌≡◌, refl, ap, ◌∙◌}
use mathlib.Core.Bool.{Bool, true, false, cond}
use mathlib.Core.List.{List, [], ◌∷◌, ◌++◌}
use lib.Dec.{eqb}
use Rattle.position.specs.Board.{Board, Desk}
use Rattle.position.specs.Change.{Change}
use Rattle.position.specs.Change.Change.{marked, timed}
use Rattle.position.specs.Effect.{change, changes, with_clock}
use Rattle.acceptance.proofs.Carries.{changes_then}
use Rattle.clock.specs.declared.Clock.{Clock}
use Rattle.clock.specs.Clock.{judges_supply, next_clock}
use Rattle.march.specs.EndPhase.{end_changes, judge_all, judge_force, judged_marks, mapped_of, rest_all, rested, supply_changes}

-- changes that leave the desk
abbrev Aside : List Change → Type 0
Aside xs = (c : Board) → (changes c xs).desk ≡ c.desk

aside_then : (xs ys : List Change) → Aside xs → Aside ys → Aside (xs ++ ys)
aside_then xs ys f g c = ap (λ (d : Board). d.desk) (changes_then xs ys c) ∙ g (changes c xs) ∙ f c

aside_none : Aside []
unfolding changes
aside_none c = refl

aside_marked : (u m : ℕ) → Aside (marked u m ∷ [])
unfolding changes change
aside_marked u m c = refl

aside_cond : (t : Bool) (xs ys : List Change) → Aside xs → Aside ys → Aside (cond t xs ys)
aside_cond true xs ys f g = f
aside_cond false xs ys f g = g

module _ (b : Board) where
  rest_aside : (n : ℕ) → Aside (rest_all b n)
  unfolding rest_all
  rest_aside zero = aside_none
  rest_aside (suc n) =
      let m = rested (b.units.state.marks n) in
      aside_then (rest_all b n) (marked n m ∷ []) (rest_aside n) (aside_marked n m)

  judge_aside : (n k : ℕ) → Aside (judge_all b n k)
  unfolding judge_all
  judge_aside n zero = aside_none
  judge_aside n (suc k) =
      let m = judged_marks b k in
      aside_then (judge_all b n k) (cond (mapped_of b n k) (marked k m ∷ []) []) (judge_aside n k)
      (aside_cond (mapped_of b n k) (marked k m ∷ []) [] (aside_marked k m) aside_none)

  supply_aside : (c : Clock) → Aside (supply_changes b c)
  unfolding supply_changes judge_force
  supply_aside c =
      let n = b.units.count in
      let two = judge_all b 3 n ++ judge_all b 4 n in
      aside_cond (judges_supply c) (cond (eqb c.force 3) two (judge_all b c.force n)) []
      (aside_cond (eqb c.force 3) two (judge_all b c.force n)
      (aside_then (judge_all b 3 n) (judge_all b 4 n) (judge_aside 3 n) (judge_aside 4 n))
      (judge_aside c.force n))
      aside_none

  abbrev then : Clock
  then = next_clock b.desk.clock

  -- of the desk the clock alone is changed
  pub end_desk : (changes b (end_changes b)).desk ≡ with_clock b.desk then.turn then.force then.phase
  unfolding end_changes changes change
  end_desk =
      let rest = rest_all b b.units.count in
      ap (λ (d : Board). d.desk) (changes_then rest (timed then.turn then.force then.phase ∷ supply_changes b then) b)
      ∙ supply_aside then (change (changes b rest) (timed then.turn then.force then.phase))
      ∙ ap (λ (d : Desk). with_clock d then.turn then.force then.phase) (rest_aside b.units.count b)
