-- `down` meets its contract. The invariant: what was swept so far.
-- Assumes nothing.
use Rattle.position.specs.Board.{ground}
use Rattle.position.specs.Ground.{next}
use Rattle.walk.specs.Swept.{Swept}
use Rattle.sweeping.proofs.down.Given as goal

abbrev pub invariant-loop-row : goal.invariant-loop-row
invariant-loop-row l = Swept (next (ground l.p)) l.initial.buf l.buf
