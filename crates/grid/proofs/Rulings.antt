-- The grid's small rulings hold: both sides of each row compute to the same.
-- Assumes nothing.
use mathlib.Core.Path.{refl}
use mathlib.Core.List.{List, [], ◌∷◌, ◌++◌}
use Rattle.grid.specs.Rulings.{Row, Answered, grid_open, grid_rows}

pub grid_rulings : Answered grid_rows
unfolding grid_open
grid_rulings = (refl, (refl, (refl, tt)))

-- tables make one table
pub together : (rows more : List Row) → Answered rows → Answered more → Answered (rows ++ more)
together [] more p q = q
together (r ∷ rows) more p q = (p.0, together rows more p.1 q)
