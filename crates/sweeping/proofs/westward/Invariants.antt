-- `westward` meets its contract. The invariant: what was swept so far.
-- Assumes nothing.
use Rattle.position.specs.Board.{ground}
use Rattle.position.specs.Ground.{next}
use Rattle.walk.specs.Swept.{Swept}
use Rattle.sweeping.proofs.westward.Given as goal

abbrev pub invariant-loop-c : goal.invariant-loop-c
invariant-loop-c l = Swept (next (ground l.p)) l.initial.buf l.buf
