-- `grade::grade` meets its contract. The loop's invariant: the hexes below h hold their grades, and the others their paint.
-- Assumes nothing.
use Rattle.position.specs.Board.{board}
use Rattle.field.specs.Scene.{scene}
use Rattle.paint.proofs.Bytes.{Pass}
use Rattle.supply.specs.Graded.{grade_by}
use Rattle.supply.proofs.grade.grade.Given as goal

abbrev pub invariant-loop-h : goal.invariant-loop-h
invariant-loop-h l = Pass (grade_by (scene (board l.p)) l.n) l.h l.initial.m-items l.m-items
