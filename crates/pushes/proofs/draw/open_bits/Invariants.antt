-- `draw::open_bits` meets its contract. The loop's invariant: the bits of the directions passed. The measure is how many are left.
-- Assumes nothing.
use Prim.Native.Nat.{◌-◌, ◌≤◌}
use mathlib.Core.Path.{◌≡◌}
use Rattle.position.specs.Board.{ground}
use Rattle.pushes.specs.Drawn.{open_bits}
use Rattle.pushes.proofs.draw.open_bits.Given as goal

abbrev pub invariant-loop-d : goal.invariant-loop-d
invariant-loop-d l = (l.d ≤ 6) × (l.m ≡ open_bits (ground l.p) l.x l.d)

abbrev pub decreases-loop-d : goal.decreases-loop-d
decreases-loop-d l = 6 - l.d
