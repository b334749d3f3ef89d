-- `seed_row` meets its contract. The invariant: the walks from the hexes of the row that lie before column c.
-- Assumes nothing.
use Prim.Native.Nat.{◌+◌, ◌-◌, ◌*◌}
use Rattle.position.specs.Board.{ground}
use Rattle.position.specs.Ground.{next}
use Rattle.walk.specs.Trail.{Sown}
use Rattle.walking.proofs.seed_row.Given as goal

abbrev pub invariant-loop-c : goal.invariant-loop-c
invariant-loop-c l = Sown (next (ground l.p)) l.initial.buf (l.row * l.v.width) (l.row * l.v.width + l.c) l.buf

abbrev pub decreases-loop-c : goal.decreases-loop-c
decreases-loop-c l = l.w - l.c
