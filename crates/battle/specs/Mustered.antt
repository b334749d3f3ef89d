-- Beside what is certain: vocabulary of contracts and proofs.
-- What the battle line holds while it is filled: it has 21 places, of which the first n count.
-- Assumes nothing.
use Rattle.std.specs.Prelude.{◌+◌, ◌<◌, ◌≤◌, ℕ, Bool, List, ◌++◌, map, ◌≡◌, cond, eqb, length, take}
use Rattle.position.specs.Board.{Board, board}
use Rattle.position.specs.Kind.{us, canada}
use Rattle.position.specs.Layout.{strength}
use Rattle.line.specs.Line.{fighter_at, fighter_of, places}
use Rattle.line.specs.declared.Fighter.{Fighter}
use Rattle.results.specs.Participants.{defenders, participants}
use Rattle.battle.specs.Line.{fighter}

-- unit u as it comes to the line: with its printed strength, and not armed yet
unfoldable pub recruit : List ℕ → ℕ → Fighter
recruit p u = fighter_of u (strength p u) 0

-- the first n in the line, behind those that stood there, are the units in the target hex
pub record Joins (p : List ℕ) (target : ℕ) (before : List Fighter) (m : ℕ) (after : List Fighter) (n : ℕ) : Type 0 where
  pub long : n ≡ m + length (defenders (board p) target)
  pub held : take n after ≡ take m before ++ map (recruit p) (defenders (board p) target)

-- the first n in the line are the participants
pub record Musters (p : List ℕ) (target : ℕ) (units : List ℕ) (line : List Fighter) (n : ℕ) : Type 0 where
  pub long : n ≡ length units + length (defenders (board p) target)
  pub held : take n line ≡ map (recruit p) (participants (board p) target units)
  pub most : n ≤ places

-- a participant whose supply can be looked up: of one of the five nationalities, and on the map
pub record Standing (b : Board) (u : ℕ) : Type 0 where
  pub nation : b.units.counter.nationality u < 5
  pub mapped : b.units.state.hex u < b.map.hexes

pub record AllStanding (b : Board) (line : List Fighter) : Type 0 where
  pub each : (i : ℕ) → i < length line → Standing b (fighter_at line i).unit

-- the nationality of a fighter's unit
abbrev pub nation_of : Board → Fighter → ℕ
nation_of b x = b.units.counter.nationality x.unit

-- the fighter at place i is of the nationality
unfoldable pub nation_at : Board → ℕ → List Fighter → ℕ → Bool
nation_at b nation line i = eqb (nation_of b (fighter_at line i)) nation

-- the fighter with what its unit fights with
unfoldable pub armed : Board → Fighter → Fighter
armed b x = fighter b x.unit x.printed

-- the same if it is of the nationality; any other is as it was
unfoldable pub arm_own : Board → ℕ → Fighter → Fighter
arm_own b nation x = cond (eqb (nation_of b x) nation) (armed b x) x

-- those of the US are armed, and then those of Canada
unfoldable pub arm_home : Board → List Fighter → List Fighter
arm_home b line = map (arm_own b canada) (map (arm_own b us) line)

-- the unit of a fighter
abbrev pub unit_of : Fighter → ℕ
unit_of x = x.unit
