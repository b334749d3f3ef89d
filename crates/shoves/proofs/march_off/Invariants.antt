-- `march_off` meets its contract. The loop's invariant: the steps and pushes that are left, done to the position as it is, make what the
-- whole march makes.
-- Assumes nothing.
use Rattle.shoves.proofs.Marching.{March}
use Rattle.shoves.proofs.march_off.Given as goal

abbrev pub invariant-loop-to : goal.invariant-loop-to
invariant-loop-to l = March l.initial.p l.v l.h l.route l.pushes l.p l.a l.k l.to-index
