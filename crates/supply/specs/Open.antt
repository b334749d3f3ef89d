-- Which hexes are open for a nationality, and which are its sources.
-- Assumes nothing.
use Rattle.std.specs.Prelude.{ℕ, Bool, not, cond, ◌&&◌, ◌||◌, ltb, leb, eqb}
use Rattle.position.specs.Tally.{any}
use Rattle.position.specs.Bits.{has, port, urban, supply}
use Rattle.position.specs.Kind.{force, us, canada}
use Rattle.field.specs.Scene.{Scene}
use Rattle.field.specs.Zone.{holds, supply_unit_on, holds_enemy, enemy_zone}

-- "For a nationality a hex is open if it is not sea or lake, holds no Enemy, and is outside Enemy zones or holds a unit of its force."
unfoldable pub open_to : Scene → ℕ → ℕ → Bool
open_to s n h =
    leb (s.map.surface h) 1 && (not (holds_enemy s (force n) h) && (not (enemy_zone s (force n) h) || holds s (force n) h))

-- "for US and Canada, supply hexes of their own country": 1 is the US, 2 is Canada
unfoldable pub home_source : Scene → ℕ → ℕ → Bool
home_source s c h = has supply (s.map.flags h) && eqb (s.map.country h) c

unfoldable pub coastal : Scene → ℕ → Bool
coastal s h = eqb (s.map.surface h) 1

-- "a port, or coastal and urban, or coastal and supply"
unfoldable pub landing : Scene → ℕ → Bool
landing s h = has port (s.map.flags h) || (coastal s h && (has urban (s.map.flags h) || has supply (s.map.flags h)))

-- "for others, a coastal hex with a supply unit of that force, or a hex holding that force that is a port, or coastal and urban, or coastal and supply"
unfoldable pub landed_source : Scene → ℕ → ℕ → Bool
landed_source s f h = (coastal s h && any (supply_unit_on s f h) s.count) || (holds s f h && landing s h)

-- "Sources: for US and Canada ..; for others .."
unfoldable pub source : Scene → ℕ → ℕ → Bool
source s n h = cond (eqb n us) (home_source s 1 h) (cond (eqb n canada) (home_source s 2 h) (landed_source s (force n) h))

-- 0 closed or off the map, 1 open, 2 open and a source: "both ends included", a source must itself be open
unfoldable pub grade : Scene → ℕ → ℕ → ℕ
grade s n h = cond (ltb h s.map.hexes && open_to s n h) (cond (source s n h) 2 1) 0
