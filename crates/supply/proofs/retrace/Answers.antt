-- `supply::retrace` meets its contract: what the walk over the grades for Canada leaves, likewise.
-- Assumes nothing.
use mathlib.Core.Path.{sym}
use Rattle.position.specs.Kind.{canada}
use Rattle.position.specs.Board.{board}
use Rattle.field.specs.Scene.{scene}
use Rattle.supply.proofs.Supplies.{graded, traced}
use Rattle.supply.proofs.retrace.Goals as goal

pub reach-requires : goal.reach-requires
reach-requires c = let l = c.requires.0 in record { laid = l; graded = graded (sym l.view.hexes) c.regrade.ensures }

pub returns : goal.returns
returns c = let a = c.args in traced (scene (board a.p.now)) canada c.regrade.ensures c.reach.ensures
