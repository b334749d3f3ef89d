-- The ground: which side lies between two hexes, which hexes a step may join, and where a unit may stand.
-- Assumes nothing.
use Rattle.std.specs.Prelude.{ℕ, zero, suc, ◌-◌, ◌/◌, ◌%◌, Bool, false, not, ◌&&◌, cond, ltb, leb, eqb, Option, Some, None}
use Rattle.grid.specs.Map.{neighbour_of}
use Rattle.position.specs.Tally.{any}
use Rattle.position.specs.Board.{Board, Map}

-- the neighbour of a hex on this map
abbrev pub beside : Map → ℕ → ℕ → Option ℕ
beside m h d = neighbour_of m.width m.height h d

-- "sides N + 4 x NE + 16 x SE (0 plain, 1 river, 2 major river, 3 blocked ..)": those are the directions 0, 1 and 2
unfoldable pub stored : Map → ℕ → ℕ → ℕ
stored m h zero = m.sides h % 4
stored m h (suc zero) = m.sides h / 4 % 4
stored m h (suc (suc d)) = m.sides h / 16 % 4

-- "The other three sides belong to the neighbours": seen from the neighbour, direction d is d - 3
unfoldable pub stored_at : Map → Option ℕ → ℕ → ℕ
stored_at m (Some n) d = stored m n (d - 3)
stored_at m None d = 0

-- the side of hex h in direction d
unfoldable pub side : Map → ℕ → ℕ → ℕ
side m h d = cond (ltb d 3) (stored m h d) (stored_at m (beside m h d) d)

abbrev pub river_side : ℕ
river_side = 1

abbrev pub major_river_side : ℕ
major_river_side = 2

abbrev pub blocked_side : ℕ
blocked_side = 3

-- where a step over an unblocked side leads
unfoldable pub next : Map → ℕ → ℕ → Option ℕ
next m h d = cond (eqb (side m h d) blocked_side) None (beside m h d)

unfoldable pub is_at : Option ℕ → ℕ → Bool
is_at (Some n) x = eqb n x
is_at None x = false

-- the least number below n that passes the test, n where none does
unfoldable pub least : (ℕ → Bool) → ℕ → ℕ
least t zero = 0
least t (suc n) = cond (any t n) (least t n) (cond (t n) n (suc n))

-- the direction in which a step over an unblocked side leads from hex h to hex x; 6 if none does
unfoldable pub bearing : Map → ℕ → ℕ → ℕ
bearing m h x = least (λ d. is_at (next m h d) x) 6

-- hex x is next to hex h over an unblocked side
unfoldable pub joined : Map → ℕ → ℕ → Bool
joined m h x = any (λ d. is_at (next m h d) x) 6

-- "surface 0 or 1 and unprohibited terrain", on a hex of the map; "cost 0..9 (0 means prohibited)"
unfoldable pub standable : Board → ℕ → Bool
standable b h =
    ltb h b.map.hexes && (leb (b.map.surface h) 1 && not (eqb (b.chart.cost (b.map.terrain h)) 0))
