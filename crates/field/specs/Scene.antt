-- What zones and supply look at: the map, where units stand, their nationalities and types, and who is Enemy or neutral to whom.
-- Marks, roles, strengths and the rest of the desk are not in it, so they cannot matter.
-- Assumes nothing.
use Rattle.std.specs.Prelude.{ℕ, Bool}
use Rattle.position.specs.Kind.{force}
use Rattle.position.specs.Board.{Board, Map, enemy, neutral}

pub record Scene : Type 0 where
  pub map : Map
  pub count : ℕ
  pub nationality : ℕ → ℕ
  pub kind : ℕ → ℕ
  pub hex : ℕ → ℕ
  pub enemy : ℕ → ℕ → Bool
  pub neutral : ℕ → ℕ → Bool

abbrev pub scene : Board → Scene
scene b =
    record {
      map = b.map;
      count = b.units.count;
      nationality = b.units.counter.nationality;
      kind = b.units.counter.kind;
      hex = b.units.state.hex;
      enemy = enemy b;
      neutral = neutral b;
    }

-- the force of unit u
unfoldable pub force_in : Scene → ℕ → ℕ
force_in s u = force (s.nationality u)
