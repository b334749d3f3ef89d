-- `ranks::arm_all` meets its contract. The loop's invariant: the nationalities passed are armed, and the scratch keeps its length.
-- Assumes nothing.
use mathlib.Core.Path.{refl}
use native.Mathlib.Omega.{arith}
use Rattle.position.specs.Board.{board}
use Rattle.battle.proofs.Lines.{armed_all, armed_more, armed_none}
use Rattle.ranks.proofs.arm_all.Goals as goal

pub loop-nation-init : goal.loop-nation-init
loop-nation-init c = (armed_none (board c.args.p.now) c.requires.1, refl)

pub loop-nation-preserved : goal.loop-nation-preserved
loop-nation-preserved c = (armed_more (board c.args.p.now) (omega arith) c.loop-nation.invariant.0 c.arm.ensures, omega (arith, c.arm.auto.scratch, c.loop-nation.invariant.1))

pub returns : goal.returns
returns c = armed_all (board c.args.p.now) c.requires.1 (omega arith) c.loop-nation.invariant.0 c.arm_home.ensures
