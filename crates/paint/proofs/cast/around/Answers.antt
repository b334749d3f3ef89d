-- `cast::around` meets its contract. The loop's invariant: the zone over the directions below d is marked.
-- Assumes nothing.
use native.Mathlib.Omega.{arith}
use Rattle.position.specs.Board.{ground}
use Rattle.paint.proofs.Adding.{adds_none, adds_as, adds_also}
use Rattle.paint.proofs.Casting.{reaches_none, reaches_step}
use Rattle.paint.proofs.cast.around.Goals as goal

pub loop-d-init : goal.loop-d-init
loop-d-init c =
    let a = c.args in
    (omega arith, adds_none (λ k h i. reaches_none (ground a.p.now) a.s.hex k h))

pub loop-d-preserved : goal.loop-d-preserved
loop-d-preserved c =
    let a = c.args in
    (omega arith, adds_as (adds_also c.loop-d.invariant.1 c.over.ensures) (λ k h i. reaches_step (ground a.p.now) a.s.hex k h c.loop-d.d))
