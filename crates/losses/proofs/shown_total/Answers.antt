-- `losses::shown_total` meets its contract: the printed total of the line is that of the list.
-- Assumes nothing.
use Rattle.position.specs.Board.{board}
use Rattle.aftermath.proofs.Losing.{listed_total}
use Rattle.losses.proofs.shown_total.Goals as goal

pub returns : goal.returns
returns c =
    listed_total (board c.args.p.now) c.args.units.now c.requires.1 c.loss_line-fighters.ensures c.printed_total.ensures.is
