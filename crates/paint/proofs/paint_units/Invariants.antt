-- `paint_units` meets its contract. The loop's invariant: what the units below u show is marked.
-- Assumes nothing.
use Rattle.position.specs.Board.{board}
use Rattle.field.specs.Scene.{scene}
use Rattle.paint.specs.Paint.{Adds, says_below}
use Rattle.paint.proofs.paint_units.Given as goal

abbrev pub invariant-loop-u : goal.invariant-loop-u
invariant-loop-u l = Adds l.v.width l.v.height l.at (says_below (scene (board l.p)) l.f l.u) l.initial.buf l.buf
