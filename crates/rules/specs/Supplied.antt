-- "A unit is in supply exactly if an unblocked line of hexes to a source exists.": of the mark that the end of a phase leaves, and of who
-- fights at half strength. Proved in proofs/Supplied.antt.
-- Assumes nothing.
use Rattle.std.specs.Prelude.{ℕ, ◌<◌, ◌≡◌, true, List, ◌↔◌}
use Rattle.clock.specs.Clock.{next_clock, judges_supply}
use Rattle.position.specs.Bits.{has, supplied}
use Rattle.position.specs.Board.{Board, board, force_of, nowhere}
use Rattle.acceptance.specs.Accepted.{Accepted}
use Rattle.ruling.specs.Answers.{IsAccepted}
use Rattle.field.specs.Scene.{scene}
use Rattle.field.specs.Working.{half}
use Rattle.supply.specs.Supply.{Supplied}
use Rattle.battle.specs.Line.{fighter}
use Rattle.rules.specs.Order.{step}
use Rattle.rules.specs.Order.Order.{end_phase}

-- an unblocked line of open hexes leads from where unit u stands to a source of its own nationality
abbrev pub InSupply : Board → ℕ → Type 0
InSupply b u = Supplied (scene b) (b.units.counter.nationality u) (b.units.state.hex u)

-- unit u is there, and on the map
pub record Mapped (b : Board) (u : ℕ) : Type 0 where
  pub counted : u < b.units.count
  pub stands : b.units.state.hex u ≡ nowhere → ⊥

-- "On entering phase 0 or 2 it sets or clears supplied on the then phasing force's mapped units."
abbrev pub MarkedRight : Type 0
MarkedRight =
    (p l : List ℕ) (u : ℕ) → Accepted p → IsAccepted (step p (record { order = end_phase; lent = l })).answer
    → judges_supply (next_clock (board p).desk.clock) ≡ true → Mapped (board p) u
    → force_of (board p) u ≡ (next_clock (board p).desk.clock).force
    → (has supplied ((board (step p (record { order = end_phase; lent = l })).position).units.state.marks u) ≡ true) ↔ InSupply (board p) u

-- "Each strength out of supply at that instant is halved, fractions up, unit by unit."
pub record Fights (b : Board) (u printed : ℕ) : Type 0 where
  pub whole : InSupply b u → (fighter b u printed).fighting ≡ printed
  pub halved : (InSupply b u → ⊥) → (fighter b u printed).fighting ≡ half printed

abbrev pub HalvedRight : Type 0
HalvedRight = (b : Board) (u printed : ℕ) → Fights b u printed

pub record InSupplyRight : Type 0 where
  pub marked : MarkedRight
  pub halved : HalvedRight
