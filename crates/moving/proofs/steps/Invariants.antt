-- `moving::steps` meets its contract. The loop's invariant: what meets the tests from the next place on, where the move has come to
-- and with what it has spent, meets them all, and it is known whether the next step leaves a zone.
-- Assumes nothing.
use Prim.Native.Nat.{◌+◌, ◌<◌}
use mathlib.Core.Path.{◌≡◌}
use Rattle.position.specs.Board.{board}
use Rattle.march.specs.Move.{leg, leaves_zone, step, after_step}
use Rattle.ruling.proofs.Going.{Gone}
use Rattle.moving.proofs.steps.Given as goal

abbrev pub invariant-loop-i : goal.invariant-loop-i
invariant-loop-i l =
    Gone l.p (step (board l.p) l.u) (after_step (board l.p)) (leg ((board l.p).units.state.hex l.u) 0) l.path l.i (leg l.at l.spent)
    × (l.spent < 256)
    × (l.leaves ≡ leaves_zone (board l.p) l.u (leg l.at l.spent) (l.i + 1))
