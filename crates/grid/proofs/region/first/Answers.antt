-- `region::first` meets its contract: above the row above the region nothing lies in it or beside it.
-- Assumes nothing.
use native.Mathlib.Omega.{arith}
use Prim.Native.Nat.{◌-◌}
use Rattle.grid.proofs.Arith.{small}
use Rattle.grid.proofs.Regions.{before_top}
use Rattle.grid.proofs.region.first.Goals as goal

pub overflow_mul-result : goal.overflow_mul-result
overflow_mul-result c =
    let a = c.args in
    omega (arith, small {a = a.at.top - 8 - 1} {b = a.w} (omega (arith, c.requires.1.top)) c.requires.0.wide64)

pub returns : goal.returns
returns c = before_top c.requires.0.wide (omega arith)
