-- What an accepted position is, line by line of "The position, contents first". All but the layout and the strengths is a fact of the board.
-- Assumes nothing.
use Rattle.std.specs.Prelude.{ℕ, ◌+◌, ◌≤◌, ◌<◌, ◌≡◌, List, true}
use Rattle.position.specs.Stage as Stage
use Rattle.position.specs.Role as Role
use Rattle.clock.specs.Phase as Phase
use Rattle.clock.specs.Clock.{last_force, HasPhase}
use Rattle.position.specs.Bits.{has, tried, marks_end}
use Rattle.position.specs.Kind.{home, may_belong, may_allow, always_tried}
use Rattle.position.specs.Layout as Layout
use Rattle.position.specs.Board.{Board, Desk, board, nowhere, force_of}
use Rattle.position.specs.Ground.{joined, standable}
use Rattle.position.specs.Crowd.{crowd, holders, owing_hexes, filled, routes}
use Rattle.position.specs.Shape.{In, Shaped}
use Rattle.setting.specs.Setting.{ChartOk, ResultsOk, MapOk}

-- a unit on the map: "Units on the map stand on surface 0 or 1 and unprohibited terrain, at most three in a hex"
pub record MappedOk (b : Board) (u : ℕ) : Type 0 where
  pub stands : standable b (b.units.state.hex u) ≡ true
  pub room : crowd b (b.units.state.hex u) ≤ 3

-- "Destroyed units have role 0 and no mark but tried, which stays."
pub record DestroyedOk (b : Board) (u : ℕ) : Type 0 where
  pub role : b.units.state.role u ≡ Role.none
  pub marks : b.units.state.marks u ≤ tried

-- "Role 1 owes, role 2 may advance; both are tried and on the map."
pub record RoleOk (b : Board) (u : ℕ) : Type 0 where
  pub tried : has tried (b.units.state.marks u) ≡ true
  pub mapped : b.units.state.hex u ≡ nowhere → ⊥

-- the counter itself
pub record CounterOk (b : Board) (u : ℕ) : Type 0 where
  -- types 0..5 with their nationalities, and "allowance 0..30"
  pub belongs : may_belong (b.units.counter.kind u) (b.units.counter.nationality u) ≡ true
  pub allows : may_allow (b.units.counter.kind u) (b.units.counter.allowance u) ≡ true
  -- "marks (1 tried + 2 supplied + 4 moved + 8 fought)"; "unnamed bits are 0"
  pub marks : b.units.state.marks u < marks_end
  -- "Types 4 and 5 are always tried."
  pub always : always_tried (b.units.counter.kind u) ≡ true → has tried (b.units.state.marks u) ≡ true

-- roles 0, 1 and 2
pub record DutyOk (b : Board) (u : ℕ) : Type 0 where
  pub role : b.units.state.role u ≤ Role.advances
  pub held : (b.units.state.role u ≡ Role.none → ⊥) → RoleOk b u

-- "65535 = destroyed"
pub record StandOk (b : Board) (u : ℕ) : Type 0 where
  pub destroyed : b.units.state.hex u ≡ nowhere → DestroyedOk b u
  pub mapped : (b.units.state.hex u ≡ nowhere → ⊥) → MappedOk b u

-- one unit by itself
pub record UnitOk (b : Board) (u : ℕ) : Type 0 where
  pub counter : CounterOk b u
  pub duty : DutyOk b u
  pub stand : StandOk b u

-- two units of different forces: "at most three in a hex, of one force", "Role 1 units are of one force, role 2 units of one"
pub record TwoForcesOk (b : Board) (u w : ℕ) : Type 0 where
  pub apart : (b.units.state.hex u ≡ nowhere → ⊥) → b.units.state.hex w ≡ b.units.state.hex u → ⊥
  pub roles : (b.units.state.role u ≡ Role.none → ⊥) → b.units.state.role w ≡ b.units.state.role u → ⊥

-- two units of one force: role 1 and role 2 are "not the same" force's
pub record OneForceOk (b : Board) (u w : ℕ) : Type 0 where
  pub roles : b.units.state.role u ≡ Role.owes → b.units.state.role w ≡ Role.advances → ⊥

-- two units side by side
pub record PairOk (b : Board) (u w : ℕ) : Type 0 where
  pub two : (force_of b u ≡ force_of b w → ⊥) → TwoForcesOk b u w
  pub one : force_of b u ≡ force_of b w → OneForceOk b u w

pub record UnitsOk (b : Board) : Type 0 where
  pub each : (u : ℕ) → u < b.units.count → UnitOk b u
  pub pairs : (u : ℕ) → u < b.units.count → (w : ℕ) → w < b.units.count → PairOk b u w

-- "turn 1..60, last turn 1..60 not below turn, force 0..3, phase (0 land movement, 1 combat, 2 mechanised), stage"
pub record ClockOk (d : Desk) : Type 0 where
  pub turn : In 1 d.clock.turn 60
  pub last_turn : In d.clock.turn d.last_turn 60
  pub force : d.clock.force ≤ last_force
  pub phase : HasPhase d.clock.force d.clock.phase
  -- "Stages: 0 quiet, 1 retreats, 2 losses, 3 advances; 1 to 3 only in phase 1."
  pub stage : d.battle.stage ≤ Stage.advances
  pub combat : (d.battle.stage ≡ Stage.quiet → ⊥) → d.clock.phase ≡ Phase.combat

-- "naming its player, 0..3"; "force 3 never shares a player"
pub record PlayerOk (d : Desk) (f : ℕ) : Type 0 where
  pub small : d.player f ≤ 3
  pub apart : (f ≡ home → ⊥) → d.player f ≡ d.player home → ⊥

abbrev pub PlayersOk : Desk → Type 0
PlayersOk d = (f : ℕ) → f < Layout.forces → PlayerOk d f

-- "Stage 0: no roles or routes."
pub record QuietOk (b : Board) : Type 0 where
  pub owing : holders b Role.owes ≡ 0
  pub advancing : holders b Role.advances ≡ 0
  pub routes : routes b ≡ 0

-- "Stage 1: n is 1..3, role 1 units stand in k hexes, 1 or more, and k plus filled routes is at most 6."
pub record RetreatsOk (b : Board) : Type 0 where
  pub owed : In 1 b.desk.battle.owed 3
  pub some : 1 ≤ owing_hexes b
  pub room : owing_hexes b + routes b ≤ Layout.route_count

-- "Stage 2: need is 1..1080, 1 to 18 of role 1, no role 2."
pub record LossesOk (b : Board) : Type 0 where
  pub need : In 1 b.desk.battle.need 1080
  pub owing : In 1 (holders b Role.owes) 18
  pub advancing : holders b Role.advances ≡ 0

-- "Stage 3: some role 2, no role 1."
pub record AdvancesOk (b : Board) : Type 0 where
  pub advancing : 1 ≤ holders b Role.advances
  pub owing : holders b Role.owes ≡ 0

-- what each stage asks
pub record DuringOk (b : Board) : Type 0 where
  pub quiet : b.desk.battle.stage ≡ Stage.quiet → QuietOk b
  pub retreats : b.desk.battle.stage ≡ Stage.retreats → RetreatsOk b
  pub losses : b.desk.battle.stage ≡ Stage.losses → LossesOk b
  pub advances : b.desk.battle.stage ≡ Stage.advances → AdvancesOk b

-- "Elsewhere n and need are 0."
pub record StageOk (b : Board) : Type 0 where
  pub during : DuringOk b
  pub owed : (b.desk.battle.stage ≡ Stage.retreats → ⊥) → b.desk.battle.owed ≡ 0
  pub need : (b.desk.battle.stage ≡ Stage.losses → ⊥) → b.desk.battle.need ≡ 0

-- a number of a route and the next: "each fills from its front ..", "each next to the last over an unblocked side"
pub record LinkOk (b : Board) (r j : ℕ) : Type 0 where
  pub front : (b.desk.route r (j + 1) ≡ nowhere → ⊥) → b.desk.route r j ≡ nowhere → ⊥
  pub step : (b.desk.route r (j + 1) ≡ nowhere → ⊥) → joined b.map (b.desk.route r j) (b.desk.route r (j + 1)) ≡ true

-- ".. with hexes of surface 0 or 1, unprohibited"
pub record PlaceOk (b : Board) (r j : ℕ) : Type 0 where
  pub link : LinkOk b r j
  pub stands : (b.desk.route r j ≡ nowhere → ⊥) → standable b (b.desk.route r j) ≡ true

-- "Filled routes come first"
pub record RouteOk (b : Board) (r : ℕ) : Type 0 where
  pub first : filled b (r + 1) ≡ true → filled b r ≡ true
  pub places : (j : ℕ) → j < Layout.route_hexes → PlaceOk b r j

abbrev pub RoutesOk : Board → Type 0
RoutesOk b = (r : ℕ) → r < Layout.route_count → RouteOk b r

-- all that a board shows of it
pub record Lawful (b : Board) : Type 0 where
  pub chart : ChartOk b.chart
  pub results : ResultsOk b.results
  pub map : MapOk b.map
  pub units : UnitsOk b
  pub clock : ClockOk b.desk
  pub players : PlayersOk b.desk
  pub stage : StageOk b
  pub routes : RoutesOk b

-- "strength 1..60"
abbrev pub StrengthsOk : List ℕ → Type 0
StrengthsOk p = (u : ℕ) → u < Layout.count p → In 1 (Layout.strength p u) 60

pub record Accepted (p : List ℕ) : Type 0 where
  pub shaped : Shaped p
  pub strengths : StrengthsOk p
  pub lawful : Lawful (board p)
