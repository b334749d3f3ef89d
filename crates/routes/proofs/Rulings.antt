-- The retreat's small rulings hold: both sides of each row compute to the same.
-- Assumes nothing.
use mathlib.Core.Path.{refl}
use Rattle.grid.specs.Rulings.{Answered}
use Rattle.routes.specs.Rulings.{routes_open, routes_rows}

pub routes_rulings : Answered routes_rows
unfolding routes_open
routes_rulings = (refl, (refl, tt))
