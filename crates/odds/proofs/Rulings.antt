-- The attack's small rulings hold: both sides of each row compute to the same.
-- Assumes nothing.
use mathlib.Core.Path.{◌≡◌, refl}
use mathlib.Core.List.{[], ◌∷◌}
use Rattle.grid.specs.Rulings.{Answered}
use Rattle.position.specs.Ground.{river_side, major_river_side}
use Rattle.odds.specs.Rulings.{odds_open, plain_side, multiple_for, odds_rows}

pub odds_rulings : Answered odds_rows
unfolding odds_open
odds_rulings = (refl, (refl, (refl, (refl, (refl, (refl, tt))))))

-- where one attacker crosses a plain side, the rivers of the others are left out
pub one_plain : multiple_for 1 (river_side ∷ plain_side ∷ major_river_side ∷ []) ≡ 1
unfolding odds_open
one_plain = refl
