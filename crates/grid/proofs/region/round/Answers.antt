-- `region::round` meets its contract: what is so many steps away is as many columns and rows away at most.
-- Assumes nothing.
use native.Mathlib.Omega.{arith}
use mathlib.Core.Path.{refl}
use Rattle.grid.proofs.Spots.{spot_column, spot_row}
use Rattle.grid.proofs.Regions.{round_is}
use Rattle.grid.proofs.region.round.Goals as goal

pub overflow_add-west : goal.overflow_add-west
overflow_add-west c = omega (arith, spot_column c.requires.0, c.requires.0.on.wide64)

pub overflow_add-result : goal.overflow_add-result
overflow_add-result c = omega (arith, spot_row c.requires.0, c.requires.0.on.high64)

pub returns : goal.returns
returns c = round_is c.requires.0 c.requires.1 _ refl refl refl refl
