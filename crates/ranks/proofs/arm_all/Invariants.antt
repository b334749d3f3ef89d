-- `ranks::arm_all` meets its contract. The loop's invariant: the nationalities passed are armed, and the scratch keeps its length.
-- Assumes nothing.
use mathlib.Core.Path.{◌≡◌}
use lib.ListN.{length}
use Rattle.position.specs.Board.{board}
use Rattle.battle.proofs.Lines.{ArmedTo}
use Rattle.ranks.proofs.arm_all.Given as goal

abbrev pub invariant-loop-nation : goal.invariant-loop-nation
invariant-loop-nation l = ArmedTo (board l.p) l.initial.line l.nation l.line × (length l.scratch ≡ length l.initial.scratch)
