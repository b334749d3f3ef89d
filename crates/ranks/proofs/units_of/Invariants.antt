-- `ranks::units_of` meets its contract. The loop's invariant: the units passed are in the array.
-- Assumes nothing.
use mathlib.Core.List.{map}
use mathlib.Core.Path.{◌≡◌}
use lib.ListN.{length, take}
use Rattle.line.specs.Line.{places}
use Rattle.battle.specs.Mustered.{unit_of}
use Rattle.ranks.proofs.units_of.Given as goal

abbrev pub invariant-loop-i : goal.invariant-loop-i
invariant-loop-i l = (length l.who ≡ places) × (take l.i l.who ≡ map unit_of (take l.i l.line))
