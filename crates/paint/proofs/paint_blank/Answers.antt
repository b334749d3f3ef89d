-- `paint_blank` meets its contract: on the blank buffer the units show the region.
-- Assumes nothing.
use lib.ListN.{length}
use Rattle.position.specs.Board.{board}
use Rattle.field.specs.Scene.{scene}
use Rattle.paint.proofs.Units.{painted}
use Rattle.paint.proofs.paint_blank.Goals as goal

pub returns : goal.returns
returns c =
    let a = c.args in
    let b = board a.p.now in
    painted (scene b) a.f (length a.buf.now) c.requires.2 c.requires.0.view.count (rw (c.requires.0.view.width, c.requires.0.view.height) at c.paint_units.ensures)
