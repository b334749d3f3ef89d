-- `supply::fill` meets its contract: the walk over the grades leaves the supply map.
-- Assumes nothing.
use mathlib.Core.Path.{sym}
use Rattle.position.specs.Board.{board}
use Rattle.field.specs.Scene.{scene}
use Rattle.supply.proofs.Supplies.{graded_list, graded, walked_map}
use Rattle.supply.proofs.fill.Goals as goal

pub walk-requires : goal.walk-requires
walk-requires c = let l = c.requires.0 in record { laid = l; graded = graded (sym l.view.hexes) c.grades.ensures }

pub returns : goal.returns
returns c = let a = c.args in walked_map (scene (board a.p.now)) a.n (graded_list c.grades.ensures) c.walk.ensures
