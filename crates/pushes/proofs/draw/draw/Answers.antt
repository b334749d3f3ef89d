-- `draw::draw` meets its contract. The loop's invariant: the places passed are drawn, and the others are shown.
-- Assumes nothing.
use native.Mathlib.Omega.{arith}
use Rattle.pushes.proofs.Drawing.{drawn}
use Rattle.pushes.proofs.draw.draw.Goals as goal

pub returns : goal.returns
returns c =
    let view = c.requires.0.view in
    drawn c.loop-i.invariant (omega arith) (rw (view.width, view.height) at c.requires.1)
