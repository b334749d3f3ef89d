-- `some` meets its contract. The invariant: as long as none is found, none of the hexes below hex i has the mark.
-- Assumes nothing.
use mathlib.Core.Path.{◌≡◌}
use mathlib.Core.Bool.{false}
use Rattle.walk.specs.Chain.{mark}
use Rattle.walk.specs.Swept.{None}
use Rattle.sweeping.proofs.row.some.Given as goal

abbrev pub invariant-loop-i : goal.invariant-loop-i
invariant-loop-i l = (l.found ≡ false → None (mark l.buf) l.from l.i l.m)
