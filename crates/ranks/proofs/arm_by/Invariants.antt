-- `ranks::arm_by` meets its contract. The loop's invariant: the fighters passed are armed where they are of the nationality.
-- Assumes nothing.
use Rattle.position.specs.Board.{board}
use Rattle.battle.specs.Mustered.{arm_own}
use Rattle.battle.proofs.Lines.{Arming}
use Rattle.ranks.proofs.arm_by.Given as goal

abbrev pub invariant-loop-f : goal.invariant-loop-f
invariant-loop-f l = Arming (arm_own (board l.p) l.nation) l.initial.line l.f-index l.line
