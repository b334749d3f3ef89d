-- The map: hexes in columns and rows, and which hex lies beside which. "Hex number = row x width + column."
-- Assumes nothing.
use Rattle.std.specs.Prelude.{ℕ, zero, suc, ◌+◌, ◌-◌, ◌*◌, ◌/◌, ◌%◌, ◌≤◌, ◌<◌, Bool, cond, ◌&&◌, leb, ltb, eqb, Option, Some, None}

-- whether n is one of 1 to most
abbrev pub one_to : ℕ → ℕ → Bool
one_to n most = leb 1 n && leb n most

-- a hex of a map, as facts: "Width and height are 1 to 64", and hexes are numbered from 0
pub record On (w h hex : ℕ) : Type 0 where
  pub wide : 1 ≤ w
  pub wide64 : w ≤ 64
  pub high : 1 ≤ h
  pub high64 : h ≤ 64
  pub below : hex < w * h

-- and as a test
unfoldable pub on_map : ℕ → ℕ → ℕ → Bool
on_map w h hex = one_to w 64 && (one_to h 64 && ltb hex (w * h))

-- a column and a row, both counted from 1: there are no negative numbers, and so 0 is off the map as one past the last is
abbrev pub Place : Type 0
Place = ℕ × ℕ

-- the hex at a place: "Off the map there is none"
unfoldable pub hex_at : ℕ → ℕ → Place → Option ℕ
hex_at w h p = cond (one_to p.0 w && one_to p.1 h) (Some ((p.1 - 1) * w + (p.0 - 1))) None

-- the one of six that a direction names, clockwise from the north; what is no direction names no place
abbrev pub towards : ℕ → Place → Place → Place → Place → Place → Place → Place
towards zero n ne se s sw nw = n
towards (suc zero) n ne se s sw nw = ne
towards (suc (suc zero)) n ne se s sw nw = se
towards (suc (suc (suc zero))) n ne se s sw nw = s
towards (suc (suc (suc (suc zero)))) n ne se s sw nw = sw
towards (suc (suc (suc (suc (suc zero))))) n ne se s sw nw = nw
towards (suc (suc (suc (suc (suc (suc d)))))) n ne se s sw nw = (0, 0)

-- "even column: N (c,r-1), NE (c+1,r-1), SE (c+1,r), S (c,r+1), SW (c-1,r), NW (c-1,r-1)"
unfoldable pub beside_even : ℕ → ℕ → ℕ → Place
beside_even c r dir =
    towards dir
    (c, r - 1)  -- N
    (c + 1, r - 1)  -- NE
    (c + 1, r)  -- SE
    (c, r + 1)  -- S
    (c - 1, r)  -- SW
    (c - 1, r - 1)  -- NW

-- "odd column: N (c,r-1), NE (c+1,r), SE (c+1,r+1), S (c,r+1), SW (c-1,r+1), NW (c-1,r)"
unfoldable pub beside_odd : ℕ → ℕ → ℕ → Place
beside_odd c r dir =
    towards dir
    (c, r - 1)  -- N
    (c + 1, r)  -- NE
    (c + 1, r + 1)  -- SE
    (c, r + 1)  -- S
    (c - 1, r + 1)  -- SW
    (c - 1, r)  -- NW

-- the place beside a place: low is 0 in an even column and 1 in an odd one, as columns are counted from 0
unfoldable pub beside_of : ℕ → ℕ → ℕ → ℕ → Place
beside_of low c r dir = cond (eqb low 0) (beside_even c r dir) (beside_odd c r dir)

-- the neighbour of a hex in a direction, from the hex's column, hex % w, and row, hex / w
unfoldable pub neighbour_of : ℕ → ℕ → ℕ → ℕ → Option ℕ
neighbour_of w h hex dir = cond (on_map w h hex) (hex_at w h (beside_of (hex % w % 2) (hex % w + 1) (hex / w + 1) dir)) None
