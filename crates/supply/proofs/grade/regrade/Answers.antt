-- `grade::regrade` meets its contract. The loop's invariant: the hexes below h hold their grades, and the others what was traced.
-- Assumes nothing.
use native.Mathlib.Omega.{arith}
use lib.Seq.{length-take-le}
use Rattle.supply.proofs.Grading.{all_regraded, pass_whole}
use Rattle.supply.proofs.grade.regrade.Goals as goal

pub returns : goal.returns
returns c =
    let e = c.requires.0.view.hexes in
    let k = c.requires.1.long in
    all_regraded c.requires.1 (pass_whole c.args.v.hexes c.args.buf.now c.loop-h.m-items (omega (arith, e, k)) c.loop-h.invariant)
    (omega (arith, e, k, length-take-le c.args.v.hexes c.args.buf.now (omega (arith, e, k))))
