-- `ranks::enlist` meets its contract. The loop's invariant: the units passed are in the line.
-- Assumes nothing.
use mathlib.Core.List.{map}
use mathlib.Core.Path.{◌≡◌}
use lib.ListN.{length, take}
use Rattle.line.specs.Line.{places}
use Rattle.battle.specs.Mustered.{recruit}
use Rattle.ranks.proofs.enlist.Given as goal

abbrev pub invariant-loop-i : goal.invariant-loop-i
invariant-loop-i l = (length l.line ≡ places) × (take l.i l.line ≡ map (recruit l.p) (take l.i l.units))
