-- `asking::attackers` meets its contract. The loop's invariant: what meets the tests from the next place on meets them all.
-- Assumes nothing.
use Rattle.battle.proofs.Asks.{Asked}
use Rattle.attacking.proofs.asking.attackers.Given as goal

abbrev pub invariant-loop-i : goal.invariant-loop-i
invariant-loop-i l = Asked l.p l.target l.units l.i
