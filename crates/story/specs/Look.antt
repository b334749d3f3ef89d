-- Beside what is certain: vocabulary of contracts and proofs.
-- What the text of a map is written from: numbers of the board, which has no strength that is face down.
-- Assumes nothing.
use Rattle.std.specs.Prelude.{ℕ, ◌≡◌, ◌<◌, Option, Some, None}
use Rattle.position.specs.Board.{Board}
use Rattle.position.specs.Crowd.{crowd}
use Rattle.story.specs.declared.units.Unit.{Unit}
use Rattle.story.specs.declared.tiles.Tile.{Tile}
use Rattle.story.specs.declared.table.Desk.{Desk}
use Rattle.story.specs.declared.table.Odds.{Odds}

-- a strength as it is said: none for one that is face down, which the board shows as 0
abbrev pub ShownAs : ℕ → Option ℕ → Type 0
ShownAs n None = n ≡ 0
ShownAs n (Some s) = (s ≡ n) × (0 < s)

-- unit u, as the board shows it
pub record UnitOf (b : Board) (u : ℕ) (r : Unit) : Type 0 where
  pub number : r.number ≡ u
  pub nationality : r.nationality ≡ b.units.counter.nationality u
  pub kind : r.kind ≡ b.units.counter.kind u
  pub hex : r.hex ≡ b.units.state.hex u
  pub shown : ShownAs (b.units.state.shown u) r.shown
  pub allowance : r.allowance ≡ b.units.counter.allowance u
  pub marks : r.marks ≡ b.units.state.marks u
  pub role : r.role ≡ b.units.state.role u

-- hex h, as the board shows it
pub record TileOf (b : Board) (h : ℕ) (r : Tile) : Type 0 where
  pub number : r.number ≡ h
  pub surface : r.surface ≡ b.map.surface h
  pub terrain : r.terrain ≡ b.map.terrain h
  pub cost : r.cost ≡ b.chart.cost r.terrain
  pub flags : r.flags ≡ b.map.flags h
  pub crowd : r.crowd ≡ crowd b h

-- the desk, as the board shows it
pub record DeskOf (b : Board) (r : Desk) : Type 0 where
  pub turn : r.turn ≡ b.desk.clock.turn
  pub last_turn : r.last ≡ b.desk.last_turn
  pub force : r.force ≡ b.desk.clock.force
  pub phase : r.phase ≡ b.desk.clock.phase
  pub stage : r.stage ≡ b.desk.battle.stage
  pub owed : r.owed ≡ b.desk.battle.owed
  pub need : r.need ≡ b.desk.battle.need

-- the odds of column c, counted from 0, as the board shows them
pub record OddsOf (b : Board) (c : ℕ) (r : Odds) : Type 0 where
  pub a : r.a ≡ b.results.attack c
  pub d : r.d ≡ b.results.defence c
