-- `listed::all_there` meets its contract. The loop's invariant: what meets the tests from the next place on meets them all.
-- Assumes nothing.
use Rattle.field.proofs.Lists.{There}
use Rattle.field.proofs.listed.all_there.Given as goal

abbrev pub invariant-loop-i : goal.invariant-loop-i
invariant-loop-i l = There l.p l.units l.i
