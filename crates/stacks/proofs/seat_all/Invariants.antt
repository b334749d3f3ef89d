-- `stacks_ok::seat_all` meets its contract. The loop's invariant: the table counts the units below u. The measure is how many are left.
-- Assumes nothing.
use Prim.Native.Nat.{◌-◌, ◌≤◌}
use Rattle.position.specs.Board.{board}
use Rattle.acceptance.specs.Seats.{Seated}
use Rattle.stacks.proofs.seat_all.Given as goal

abbrev pub invariant-loop-u : goal.invariant-loop-u
invariant-loop-u l = (l.u ≤ l.v.count) × Seated (board l.p) l.base l.u l.seats

abbrev pub decreases-loop-u : goal.decreases-loop-u
decreases-loop-u l = l.v.count - l.u
