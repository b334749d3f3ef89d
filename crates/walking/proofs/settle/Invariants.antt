-- `settle` meets its contract. The invariant: the marks below the index are settled, and the others are as they were.
-- Assumes nothing.
use Rattle.walk.proofs.Runs.{Settling}
use Rattle.walking.proofs.settle.Given as goal

abbrev pub invariant-loop-m : goal.invariant-loop-m
invariant-loop-m l = Settling l.initial.buf l.m-index l.buf
