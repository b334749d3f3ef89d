-- `clear::clear` meets its contract. The loop's invariant: the pushes of the chain from number j on are carried out.
-- Assumes nothing.
use Rattle.shoves.proofs.Clearing.{DoneFrom}
use Rattle.shoves.proofs.clear.clear.Given as goal

abbrev pub invariant-loop-j : goal.invariant-loop-j
invariant-loop-j l = DoneFrom l.initial.p l.v l.h l.pushes l.k l.end l.p l.j
