-- `ending::judge_all` judges a nationality's units. The loop's invariant: those below u are judged, and the layout stays.
-- Assumes nothing.
use native.Mathlib.Omega.{arith}
use Rattle.march.proofs.Ends.{judges_none, judges_next}
use Rattle.ending.proofs.judge_all.Goals as goal

pub loop-u-init : goal.loop-u-init
loop-u-init c = (c.requires.0, judges_none _ _)

pub loop-u-preserved : goal.loop-u-preserved
loop-u-preserved c =
    let s = c.requires in
    let g = c.judge_unit.ensures in
    (g.0, judges_next s.0.shaped (omega (arith, s.0.view.count)) s.1 c.loop-u.invariant.1 g.1)
