-- What a ruling may look at: everything of a position but the strengths that are face down. Each part is read off the bytes by
-- accessors that show nothing past their tables, so positions that differ only in face-down strengths have one board.
-- Assumes nothing.
use Rattle.std.specs.Prelude.{ℕ, Bool, not, ◌&&◌, cond, List, eqb}
use Rattle.clock.specs.declared.Clock.{Clock}
use Rattle.position.specs.Bits.{has, tried}
use Rattle.position.specs.Kind as Kind
use Rattle.position.specs.Layout as Layout
pub use Rattle.position.specs.Layout.{nowhere}
use Rattle.position.specs.declared.Relation.{Relation}
use Rattle.position.specs.declared.Relation.TheVariants.{Enemy, Neutral}

-- cost and defence multiple of the terrains, and behind them of the two river sides
pub record Chart : Type 0 where
  pub cost : ℕ → ℕ
  pub multiple : ℕ → ℕ

-- the columns of the results table, counted from 0: odds a to d, and a code for each die
pub record Results : Type 0 where
  pub columns : ℕ
  pub attack : ℕ → ℕ
  pub defence : ℕ → ℕ
  pub code : ℕ → ℕ → ℕ

-- what is printed on the map, which no call changes
pub record Map : Type 0 where
  pub width : ℕ
  pub height : ℕ
  pub hexes : ℕ
  pub terrain : ℕ → ℕ
  pub surface : ℕ → ℕ
  pub flags : ℕ → ℕ
  pub country : ℕ → ℕ
  pub sides : ℕ → ℕ

-- what is printed on the counters, which no call changes
pub record Counter : Type 0 where
  pub nationality : ℕ → ℕ
  pub kind : ℕ → ℕ
  pub allowance : ℕ → ℕ

-- where the units stand and what they have done; `shown` is the strength of a unit that is tried, else 0
pub record State : Type 0 where
  pub hex : ℕ → ℕ
  pub shown : ℕ → ℕ
  pub marks : ℕ → ℕ
  pub role : ℕ → ℕ

pub record Units : Type 0 where
  pub count : ℕ
  pub counter : Counter
  pub state : State

-- what a battle has come to
pub record Battle : Type 0 where
  pub stage : ℕ
  pub owed : ℕ
  pub need : ℕ

pub record Desk : Type 0 where
  pub clock : Clock
  pub last_turn : ℕ
  pub battle : Battle
  pub route : ℕ → ℕ → ℕ
  pub player : ℕ → ℕ

pub record Board : Type 0 where
  pub chart : Chart
  pub results : Results
  pub map : Map
  pub units : Units
  pub desk : Desk

abbrev pub chart : List ℕ → Chart
chart p = record { cost = Layout.cost p; multiple = Layout.multiple p }

abbrev pub results : List ℕ → Results
results p = record { columns = Layout.columns p; attack = Layout.attack_odds p; defence = Layout.defence_odds p; code = Layout.code p }

abbrev pub ground : List ℕ → Map
ground p =
    record {
      width = Layout.width p;
      height = Layout.height p;
      hexes = Layout.hexes p;
      terrain = Layout.terrain p;
      surface = Layout.surface p;
      flags = Layout.flags p;
      country = Layout.country p;
      sides = Layout.sides p;
    }

unfoldable pub shown : List ℕ → ℕ → ℕ
shown p u = cond (has tried (Layout.marks p u)) (Layout.strength p u) 0

abbrev pub units : List ℕ → Units
units p =
    record {
      count = Layout.count p;
      counter = record { nationality = Layout.nationality p; kind = Layout.kind p; allowance = Layout.allowance p };
      state = record { hex = Layout.hex p; shown = shown p; marks = Layout.marks p; role = Layout.role p };
    }

abbrev pub desk : List ℕ → Desk
desk p =
    record {
      clock = record { turn = Layout.turn p; force = Layout.phasing p; phase = Layout.phase p };
      last_turn = Layout.last_turn p;
      battle = record { stage = Layout.stage p; owed = Layout.owed p; need = Layout.need p };
      route = Layout.route p;
      player = Layout.player p;
    }

abbrev pub board : List ℕ → Board
board p = record { chart = chart p; results = results p; map = ground p; units = units p; desk = desk p }

-- the force of a unit
unfoldable pub force_of : Board → ℕ → ℕ
force_of b u = Kind.force (b.units.counter.nationality u)

-- "forces of one player are neither Friendly nor Enemy": Enemy is a force of another player
unfoldable pub enemy : Board → ℕ → ℕ → Bool
enemy b f g = not (eqb (b.desk.player f) (b.desk.player g))

-- and neutral another force of the same player
unfoldable pub neutral : Board → ℕ → ℕ → Bool
neutral b f g = not (eqb f g) && eqb (b.desk.player f) (b.desk.player g)

-- either of the two
abbrev pub relates : Board → Relation → ℕ → ℕ → Bool
relates b Enemy = enemy b
relates b Neutral = neutral b
