-- `look_in` meets its contract: the region of one hex has one byte.
-- Assumes nothing.
use Rattle.position.proofs.Sides.{on_view}
use Rattle.paint.proofs.Units.{one_marked}
use Rattle.paint.proofs.look_in.Goals as goal

pub spot-s-requires : goal.spot-s-requires
spot-s-requires c = on_view c.requires.0 _ c.requires.1

pub returns : goal.returns
returns c =
    let view = c.requires.0.view in
    one_marked view.width view.height c.paint_blank.ensures c.one.ensures c.wide.ensures.is c.spot-s.ensures.1
