-- The attack's lines of the table of small rulings, as rows that one table of the whole document can hold.
-- Assumes nothing.
use Rattle.std.specs.Prelude.{ℕ, ◌+◌, cond, List, [], ◌∷◌, map, eqb}
use Rattle.grid.specs.Rulings.{Row, row}
use Rattle.position.specs.Layout.{river}
use Rattle.position.specs.Board.{Chart, Results}
use Rattle.position.specs.Ground.{river_side, major_river_side}
use Rattle.field.specs.Working.{half}
use Rattle.odds.specs.Odds.{smaller, larger, side_multiple, smallest_from, smallest, defence_multiple, reached, last, column}

-- 'unfolding odds_open' opens the odds, for a row that is to be computed
unfoldable pub odds_open : ℕ
unfolding half smaller larger side_multiple smallest_from smallest defence_multiple reached last column
odds_open = 0

-- "columns 1:1, 2:1, 3:1"
abbrev pub three_columns : Results
three_columns = record { columns = 3; attack = λ c. c + 1; defence = λ c. 1; code = λ c die. 1 }

-- the column of these odds, counted from 1
abbrev pub column_for : ℕ → ℕ → ℕ
column_for attack defence = column three_columns attack defence + 1

-- a river of multiple 2 and a major river of multiple 3, and a side without
abbrev pub rivers : Chart
rivers = record { cost = λ t. 1; multiple = λ t. cond (eqb t river) 2 3 }

abbrev pub plain_side : ℕ
plain_side = 0

-- the defence multiple for a terrain's, with attackers over these sides
abbrev pub multiple_for : ℕ → List ℕ → ℕ
multiple_for terrain sides = defence_multiple terrain (map (side_multiple rivers) sides)

-- "columns 1:1, 2:1, 3:1 give 26:9 2:1, 27:9 3:1, 8:9 1:1; halves of 5, 1, 4 are 3, 1, 2; side multiples 2 and 3, terrain 1: 2;
-- a plain side, terrain 3: 3"
abbrev pub odds_rows : List Row
odds_rows =
    row (column_for 26 9) 2 ∷
    row (column_for 27 9) 3 ∷
    row (column_for 8 9) 1 ∷
    row (map half (5 ∷ 1 ∷ 4 ∷ [])) (3 ∷ 1 ∷ 2 ∷ []) ∷
    row (multiple_for 1 (river_side ∷ major_river_side ∷ [])) 2 ∷
    row (multiple_for 3 (plain_side ∷ [])) 3 ∷
    []
