-- `moving::move_unit` meets its promise: the move's tests, then the arrival where they end.
-- Assumes nothing.
use mathlib.Core.Path.{subst}
use mathlib.Core.List.{[]}
use Rattle.march.specs.Move.{move_rule}
use Rattle.march.specs.Judged.{PathOf}
use Rattle.moving.proofs.move_unit.Goals as goal

pub returns-in-Err : goal.returns-in-Err
unfolding move_rule
returns-in-Err c = subst (PathOf _ _) c.in-Err.is c.judge_move.ensures [] _

pub returns-in-Ok : goal.returns-in-Ok
unfolding move_rule
returns-in-Ok c =
    let o = subst (PathOf _ _) c.in-Ok.is c.judge_move.ensures in
    o.passes [] _ _ _ [] (rw o.at c.arrive.ensures)
