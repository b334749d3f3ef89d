-- Beside what is certain: vocabulary of contracts and proofs.
-- What the parts of the end of a phase leave. Each is stated for the board b as it was when the call began: since then only marks
-- and the clock have changed.
-- Assumes nothing.
use Rattle.std.specs.Prelude.{ℕ, ◌<◌, ◌≡◌, cond, List, [], ◌∷◌, replicate}
use Rattle.position.specs.Board.{Board, board, nowhere}
use Rattle.position.specs.Change.{makes}
use Rattle.position.specs.Change.Change.{marked}
use Rattle.field.specs.Scene.{scene}
use Rattle.supply.specs.Traced.{Traced}
use Rattle.clock.specs.declared.Clock.{Clock}
use Rattle.march.specs.EndPhase.{rested, judged_marks, mapped_of, judge_all, judge_force, supply_changes, end_changes}

-- the clock of a board, whose numbers are bytes
pub record ClockOf (b : Board) (c : Clock) : Type 0 where
  pub is : c ≡ b.desk.clock
  pub turn : c.turn < 256
  pub force : c.force < 256
  pub phase : c.phase < 256

-- Board b' is b with other marks and perhaps another clock. Unit u stands on the map or nowhere, and if it is of nationality n its
-- marks are rested and not judged yet.
pub record Waits (b b' : Board) (n u : ℕ) : Type 0 where
  pub scenes : scene b' ≡ scene b
  pub stands : (b.units.state.hex u ≡ nowhere → ⊥) → b.units.state.hex u < b.map.hexes
  pub marks : b.units.counter.nationality u ≡ n → b'.units.state.marks u ≡ rested (b.units.state.marks u)

-- and so do all units
pub record Since (b b' : Board) (n : ℕ) : Type 0 where
  pub scenes : scene b' ≡ scene b
  pub waits : (u : ℕ) → u < b.units.count → Waits b b' n u

-- unit u is judged by what is traced of supply, as the call asks, whatever board b the call began with; zones and supply stay as they were
pub record JudgesUnit (p map : List ℕ) (n u : ℕ) (q : List ℕ) : Type 0 where
  pub judged :
      (b : Board) → Waits b (board p) n u → Traced (scene b) n map
      → q ≡ makes p (cond (mapped_of b n u) (marked u (judged_marks b u) ∷ []) [])
  pub scenes : scene (board q) ≡ scene (board p)

-- the units of nationality n below k are judged
pub record JudgesAll (p : List ℕ) (n k : ℕ) (q : List ℕ) : Type 0 where
  pub judged : (b : Board) → Since b (board p) n → q ≡ makes p (judge_all b n k)
  pub scenes : scene (board q) ≡ scene (board p)

-- and so are those of force f
pub record JudgesForce (p : List ℕ) (f : ℕ) (q : List ℕ) : Type 0 where
  pub judged : (b : Board) → ((n : ℕ) → Since b (board p) n) → q ≡ makes p (judge_force b f)

-- or of none, as the clock c says
pub record JudgesPhase (p : List ℕ) (c : Clock) (q : List ℕ) : Type 0 where
  pub judged : (b : Board) → ((n : ℕ) → Since b (board p) n) → q ≡ makes p (supply_changes b c)

-- all that the call changes, and the scratch handed back all 0
pub record Ended (p q l : List ℕ) : Type 0 where
  pub made : q ≡ makes p (end_changes (board p))
  pub clear : l ≡ replicate (board p).map.hexes 0
