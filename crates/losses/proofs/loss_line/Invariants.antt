-- `losses::loss_line` meets its contract. The loop's invariant: the places passed are filled.
-- Assumes nothing.
use Rattle.position.specs.Board.{board}
use Rattle.line.specs.Line.{Filled}
use Rattle.aftermath.specs.Losses.{loss_at}
use Rattle.losses.proofs.loss_line.Given as goal

abbrev pub invariant-loop-i : goal.invariant-loop-i
invariant-loop-i l = Filled (loss_at (board l.p) l.units) l.i l.fighters
