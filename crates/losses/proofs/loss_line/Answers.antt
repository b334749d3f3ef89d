-- `losses::loss_line` meets its contract. The loop's invariant: the places passed are filled.
-- Assumes nothing.
use mathlib.Core.Path.{refl}
use native.Mathlib.Omega.{arith}
use Rattle.position.specs.Board.{board}
use Rattle.line.proofs.Filling.{filled_more}
use Rattle.aftermath.proofs.Losing.{loss_place}
use Rattle.losses.proofs.loss_line.Goals as goal

pub loop-i-preserved : goal.loop-i-preserved
loop-i-preserved c = filled_more (omega (arith, c.requires.1)) c.loop-i.invariant (loss_place (board c.args.p.now) c.args.units.now c.loop-i.i c.shown.ensures.is) refl
