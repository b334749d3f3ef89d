-- `march_off` meets its contract. The loop's invariant: the steps and pushes that are left, done to the position as it is, make what the
-- whole march makes.
-- Assumes nothing.
use native.Mathlib.Omega.{arith}
use Rattle.position.proofs.Changes.{laid_makes}
use Rattle.shoves.proofs.Marching.{march_all, march_more}
use Rattle.shoves.proofs.march_off.Goals as goal

pub step_all-requires : goal.step_all-requires
step_all-requires c =
    laid_makes _ c.loop-to.invariant.laid c.clear-k.ensures.2

pub loop-to-preserved : goal.loop-to-preserved
loop-to-preserved c =
    march_more c.loop-to.invariant (omega arith) c.clear-k.ensures
    c.step_all.ensures

pub returns : goal.returns
returns c = march_all c.loop-to.invariant (omega arith) c.free_all.ensures
