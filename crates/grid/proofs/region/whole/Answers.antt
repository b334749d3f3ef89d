-- `region::whole` meets its contract: its columns and rows are the map's.
-- Assumes nothing.
use mathlib.Core.Path.{refl}
use Rattle.grid.proofs.Regions.{whole_is}
use Rattle.grid.proofs.region.whole.Goals as goal

pub returns : goal.returns
returns c = whole_is c.requires _ refl refl refl refl
