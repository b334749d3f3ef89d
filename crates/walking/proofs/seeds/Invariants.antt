-- `seeds` meets its contract. The invariant: the walks from the hexes of the rows before row `row`.
-- Assumes nothing.
use Prim.Native.Nat.{◌-◌, ◌*◌}
use Rattle.position.specs.Board.{ground}
use Rattle.position.specs.Ground.{next}
use Rattle.walk.specs.Trail.{Sown}
use Rattle.walking.proofs.seeds.Given as goal

abbrev pub invariant-loop-row : goal.invariant-loop-row
invariant-loop-row l = Sown (next (ground l.p)) l.initial.buf 0 (l.row * l.v.width) l.buf

abbrev pub decreases-loop-row : goal.decreases-loop-row
decreases-loop-row l = l.h - l.row
