-- `draw::show` meets its contract: over what is painted come the bars.
-- Assumes nothing.
use Rattle.pushes.proofs.Drawing.{shown}
use Rattle.pushes.proofs.draw.show.Goals as goal

pub returns : goal.returns
returns c =
    let view = c.requires.0.view in
    shown view.count c.paint_blank.ensures (rw (view.width, view.height) at c.bar_all.ensures)
