-- `draw::draw` meets its contract. The loop's invariant: the places passed are drawn, and the others are shown.
-- Assumes nothing.
use Rattle.position.specs.Board.{board}
use Rattle.pushes.specs.Drawn.{DrawnTo}
use Rattle.pushes.proofs.draw.draw.Given as goal

abbrev pub invariant-loop-i : goal.invariant-loop-i
invariant-loop-i l = DrawnTo (board l.p) l.f l.start l.at l.i l.room
