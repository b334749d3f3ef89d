-- `draw::bar_all` meets its contract. The loop's invariant: the units below u have barred their hexes.
-- Assumes nothing.
use Rattle.position.specs.Board.{board}
use Rattle.paint.specs.Paint.{Adds}
use Rattle.pushes.specs.Drawn.{bars_below}
use Rattle.pushes.proofs.draw.bar_all.Given as goal

abbrev pub invariant-loop-u : goal.invariant-loop-u
invariant-loop-u l = Adds l.v.width l.v.height l.at (bars_below (board l.p) l.f l.u) l.initial.room l.room
