-- `draw::bar_all` meets its contract. The loop's invariant: the units below u have barred their hexes.
-- Assumes nothing.
use Rattle.position.specs.Board.{board}
use Rattle.paint.proofs.Adding.{adds_none, adds_as, adds_also}
use Rattle.pushes.proofs.Drawing.{below_none, below_step}
use Rattle.pushes.proofs.draw.bar_all.Goals as goal

pub loop-u-init : goal.loop-u-init
loop-u-init c = let a = c.args in adds_none (λ k h i. below_none (board a.p.now) a.f k h)

pub loop-u-preserved : goal.loop-u-preserved
loop-u-preserved c =
    let a = c.args in
    adds_as (adds_also c.loop-u.invariant c.bar.ensures) (λ k h i. below_step (board a.p.now) a.f c.loop-u.u k h)
