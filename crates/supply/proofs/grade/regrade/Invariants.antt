-- `grade::regrade` meets its contract. The loop's invariant: the hexes below h hold their grades, and the others what was traced.
-- Assumes nothing.
use Rattle.position.specs.Board.{board}
use Rattle.field.specs.Scene.{scene}
use Rattle.paint.proofs.Bytes.{Pass}
use Rattle.supply.specs.Traced.{regrade_by}
use Rattle.supply.proofs.grade.regrade.Given as goal

abbrev pub invariant-loop-h : goal.invariant-loop-h
invariant-loop-h l = Pass (regrade_by (scene (board l.p))) l.h l.initial.m-items l.m-items
