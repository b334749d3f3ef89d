-- The grid's lines of the table of small rulings, as rows that one table of the whole document can hold.
-- Assumes nothing.
use Rattle.std.specs.Prelude.{ℕ, ◌≡◌, List, [], ◌∷◌, map, Option, Some, None}
use Rattle.grid.specs.Map.{on_map, hex_at, beside_even, beside_odd, beside_of, neighbour_of}
use Rattle.grid.specs.Walk.{far, distance_of}

-- what is asked of the definitions, and what the document answers
pub record Row : Type 1 where
  pub Kind : Type 0
  pub asked : Kind
  pub answered : Kind

abbrev pub row : {A : Type 0} → A → A → Row
row {A} q a = record { Kind = A; asked = q; answered = a }

-- each row is answered as the document says
abbrev pub Answered : List Row → Type 0
Answered [] = Unit {0}
Answered (r ∷ rs) = (r.asked ≡ r.answered) × Answered rs

-- 'unfolding grid_open' opens all of the grid, for a row that is to be computed
unfoldable pub grid_open : ℕ
unfolding on_map hex_at beside_even beside_odd beside_of neighbour_of far distance_of
grid_open = 0

-- the six neighbours, clockwise from the north
abbrev pub around : ℕ → ℕ → ℕ → List (Option ℕ)
around w h hex = map (neighbour_of w h hex) (0 ∷ 1 ∷ 2 ∷ 3 ∷ 4 ∷ 5 ∷ [])

-- "on 5 x 5, neighbours of hex 12 are 7, 8, 13, 17, 11, 6 and of hex 6 are 1, 7, 12, 11, 10, 5; 1 x 1 has none"
abbrev pub grid_rows : List Row
grid_rows =
    row (around 5 5 12) (Some 7 ∷ Some 8 ∷ Some 13 ∷ Some 17 ∷ Some 11 ∷ Some 6 ∷ []) ∷
    row (around 5 5 6) (Some 1 ∷ Some 7 ∷ Some 12 ∷ Some 11 ∷ Some 10 ∷ Some 5 ∷ []) ∷
    row (around 1 1 0) (None ∷ None ∷ None ∷ None ∷ None ∷ None ∷ []) ∷
    []
