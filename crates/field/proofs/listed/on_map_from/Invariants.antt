-- `listed::on_map_from` meets its contract. The loop's invariant: what meets the tests from the next place on meets them all.
-- Assumes nothing.
use Rattle.field.proofs.Lists.{OnMap}
use Rattle.field.proofs.listed.on_map_from.Given as goal

abbrev pub invariant-loop-i : goal.invariant-loop-i
invariant-loop-i l = OnMap l.k l.p l.path l.i
