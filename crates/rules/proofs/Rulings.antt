-- The table of small rulings holds: both sides of each row compute to the same.
-- Assumes nothing.
use mathlib.Core.Path.{refl}
use Rattle.grid.specs.Rulings.{grid_open}
use Rattle.odds.specs.Rulings.{odds_open}
use Rattle.routes.specs.Rulings.{routes_open}
use Rattle.aftermath.specs.Rulings.{aftermath_open}
use Rattle.rules.specs.Rulings.{SmallRulings}

pub small_rulings : SmallRulings
unfolding grid_open odds_open routes_open aftermath_open
small_rulings =
    (refl, (refl, (refl, (refl, (refl, (refl, (refl, (refl, (refl, (refl, (refl, (refl, (refl, (refl, tt))))))))))))))
