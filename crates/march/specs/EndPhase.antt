-- The end of a phase: its refusals in their order, and what it changes.
-- Assumes nothing.
use Rattle.std.specs.Prelude.{ℕ, zero, suc, Bool, not, cond, ◌&&◌, List, [], ◌∷◌, ◌++◌, replicate, eqb}
use Rattle.position.specs.Kind.{home, us, canada}
use Rattle.position.specs.Stage as Stage
use Rattle.position.specs.Bits.{with, without, supplied, moved, fought}
use Rattle.position.specs.Board.{Board, nowhere}
use Rattle.position.specs.Change.{Change}
use Rattle.position.specs.Change.Change.{marked, timed}
use Rattle.ruling.specs.Values.{accepting}
use Rattle.ruling.specs.Verdict.{Verdict}
use Rattle.ruling.specs.Verdict.Judge.{rule}
use Rattle.ruling.specs.Verdict.Verdict.{refuse_if, judge}
use Rattle.field.specs.Scene.{scene}
use Rattle.supply.specs.Supply as Supply
use Rattle.clock.specs.declared.Clock.{Clock}
use Rattle.clock.specs.Clock.{next_clock, is_last, judges_supply}

-- "clears moved and fought"
unfoldable pub rested : ℕ → ℕ
rested m = without moved (without fought m)

-- "on all units": the units 0 to n - 1, in order
unfoldable pub rest_all : Board → ℕ → List Change
rest_all b zero = []
rest_all b (suc n) = rest_all b n ++ (marked n (rested (b.units.state.marks n)) ∷ [])

-- the marks of unit u after its own nationality's supply is judged: "sets or clears supplied"
unfoldable pub judged_marks : Board → ℕ → ℕ
judged_marks b u =
    cond (Supply.supplied (scene b) (b.units.counter.nationality u) (b.units.state.hex u))
    (with supplied (rested (b.units.state.marks u)))
    (without supplied (rested (b.units.state.marks u)))

-- unit u is of nationality n, and on the map
unfoldable pub mapped_of : Board → ℕ → ℕ → Bool
mapped_of b n u = eqb (b.units.counter.nationality u) n && not (eqb (b.units.state.hex u) nowhere)

-- the supply of nationality n judged on its mapped units below k, in order
unfoldable pub judge_all : Board → ℕ → ℕ → List Change
judge_all b n zero = []
judge_all b n (suc k) = judge_all b n k ++ cond (mapped_of b n k) (marked k (judged_marks b k) ∷ []) []

-- "the then phasing force's mapped units", nationality by nationality: force 3 has two
unfoldable pub judge_force : Board → ℕ → List Change
judge_force b f =
    cond (eqb f home) (judge_all b us b.units.count ++ judge_all b canada b.units.count) (judge_all b f b.units.count)

unfoldable pub supply_changes : Board → Clock → List Change
supply_changes b c = cond (judges_supply c) (judge_force b c.force) []

-- "clears moved and fought on all units, passes .. On entering phase 0 or 2 it sets or clears supplied on the then phasing force's mapped units"
unfoldable pub end_changes : Board → List Change
end_changes b =
    rest_all b b.units.count
    ++ (timed (next_clock b.desk.clock).turn (next_clock b.desk.clock).force (next_clock b.desk.clock).phase
    ∷ supply_changes b (next_clock b.desk.clock))

-- "end phase 16": 3 for a scratch of another length than width x height, 2 outside stage 0, 16 in the last phase of the last turn.
-- "when accepted, hand it back all 0"
unfoldable pub end_rule : Board → ℕ → Verdict
end_rule b long =
    refuse_if (not (eqb long b.map.hexes)) 3 0
    (refuse_if (not (eqb b.desk.battle.stage Stage.quiet)) 2 0
    (refuse_if (is_last b.desk.clock b.desk.last_turn) 16 0
    (judge (rule accepting (end_changes b) (replicate b.map.hexes 0)))))
