-- The table of small rulings: one list, in the document's order, and one statement. Each row asks the very definitions that the calls
-- promise. Proved by computation in proofs/Rulings.antt.
-- Assumes nothing.
use Rattle.std.specs.Prelude.{List, ◌++◌}
use Rattle.grid.specs.Rulings.{Row, Answered, grid_rows}
use Rattle.odds.specs.Rulings.{odds_rows}
use Rattle.routes.specs.Rulings.{routes_rows}
use Rattle.aftermath.specs.Rulings.{aftermath_rows}

-- neighbours; columns, halves and multiples; routes of a retreat; losses
abbrev pub table : List Row
table = grid_rows ++ (odds_rows ++ (routes_rows ++ aftermath_rows))

-- "Proved as one table, one statement"
abbrev pub SmallRulings : Type 0
SmallRulings = Answered table
