-- `stacks_ok::seat_all` meets its contract. The loop's invariant: the table counts the units below u. The measure is how many are left.
-- Assumes nothing.
use native.Mathlib.Omega.{arith}
use Rattle.acceptance.proofs.Seating.{nobody_seated, all_seated}
use Rattle.stacks.proofs.seat_all.Goals as goal

pub loop-u-init : goal.loop-u-init
loop-u-init c = (omega arith, nobody_seated _ _ c.requires.2)

pub returns : goal.returns
returns c = all_seated c.loop-u.invariant.1 (omega (arith, c.requires.0.view.count))
