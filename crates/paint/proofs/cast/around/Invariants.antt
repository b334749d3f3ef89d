-- `cast::around` meets its contract. The loop's invariant: the zone over the directions below d is marked.
-- Assumes nothing.
use Prim.Native.Nat.{◌≤◌}
use Rattle.position.specs.Board.{ground}
use Rattle.paint.specs.Paint.{Adds, reaches}
use Rattle.paint.proofs.cast.around.Given as goal

abbrev pub invariant-loop-d : goal.invariant-loop-d
invariant-loop-d l = (l.d ≤ 6) × Adds l.v.width l.v.height l.at (reaches (ground l.p) l.s.hex l.d) l.initial.buf l.buf
