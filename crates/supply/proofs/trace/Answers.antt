-- `supply::trace` meets its contract: what the walk over the grades leaves tells of each hex whether it is open and whether it is supplied.
-- Assumes nothing.
use mathlib.Core.Path.{sym}
use Rattle.position.specs.Board.{board}
use Rattle.field.specs.Scene.{scene}
use Rattle.supply.proofs.Supplies.{graded, traced}
use Rattle.supply.proofs.trace.Goals as goal

pub reach-requires : goal.reach-requires
reach-requires c = let l = c.requires.0 in record { laid = l; graded = graded (sym l.view.hexes) c.grades.ensures }

pub returns : goal.returns
returns c = let a = c.args in traced (scene (board a.p.now)) a.n c.grades.ensures c.reach.ensures
