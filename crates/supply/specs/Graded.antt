-- Beside what is certain: vocabulary of contracts and proofs.
-- What supply asks of a hex, asked of the hex's marks, and the grades in their place.
-- Assumes nothing.
use Rattle.std.specs.Prelude.{ℕ, ◌<◌, ◌≡◌, Bool, not, cond, ◌&&◌, ◌||◌, List, leb, eqb, length}
use Rattle.position.specs.Bits.{has}
use Rattle.position.specs.Kind.{us, canada}
use Rattle.walk.specs.Chain.{mark}
use Rattle.field.specs.Scene.{Scene}
use Rattle.paint.specs.Paint.{zone_mark, enemy_mark, own_mark, depot_mark, Marked}
use Rattle.supply.specs.Open.{coastal, landing, home_source, grade}

-- the buffer l shows the whole map to force f, a byte a hex
pub record MapShows (s : Scene) (f : ℕ) (l : List ℕ) : Type 0 where
  pub long : length l ≡ s.map.hexes
  pub each : (h : ℕ) → h < s.map.hexes → Marked s f h (mark l h)

-- the same questions as open_to, landed_source, source and grade, asked of a hex that is painted m
unfoldable pub open_by : Scene → ℕ → ℕ → Bool
open_by s h m = leb (s.map.surface h) 1 && (not (has enemy_mark m) && (not (has zone_mark m) || has own_mark m))

unfoldable pub landed_by : Scene → ℕ → ℕ → Bool
landed_by s h m = (coastal s h && has depot_mark m) || (has own_mark m && landing s h)

unfoldable pub source_by : Scene → ℕ → ℕ → ℕ → Bool
source_by s n h m = cond (eqb n us) (home_source s 1 h) (cond (eqb n canada) (home_source s 2 h) (landed_by s h m))

unfoldable pub grade_by : Scene → ℕ → ℕ → ℕ → ℕ
grade_by s n h m = cond (open_by s h m) (cond (source_by s n h m) 2 1) 0

-- the buffer l holds the grade of each hex for nationality n
pub record Grades (s : Scene) (n : ℕ) (l : List ℕ) : Type 0 where
  pub long : length l ≡ s.map.hexes
  pub each : (h : ℕ) → h < s.map.hexes → mark l h ≡ grade s n h
