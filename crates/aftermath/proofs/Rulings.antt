-- The losses' small rulings hold: both sides of each row compute to the same.
-- Assumes nothing.
use mathlib.Core.Path.{refl}
use Rattle.grid.specs.Rulings.{Answered}
use Rattle.aftermath.specs.Rulings.{aftermath_open, aftermath_rows}

pub aftermath_rulings : Answered aftermath_rows
unfolding aftermath_open
aftermath_rulings = (refl, (refl, (refl, tt)))
