-- `region::past` meets its contract: below the row below the region nothing lies in it or beside it.
-- Assumes nothing.
use native.Mathlib.Omega.{arith}
use Prim.Native.Nat.{◌+◌, ◌-◌}
use Rattle.grid.proofs.Arith.{small}
use Rattle.grid.proofs.Regions.{past_map, past_bottom}
use Rattle.grid.proofs.region.past.Goals as goal

pub overflow_mul-result : goal.overflow_mul-result
overflow_mul-result c = let o = c.requires.0 in omega (arith, small o.wide64 o.high64)

pub returns-then-h-under : goal.returns-then-h-under
returns-then-h-under c = past_map

pub overflow_mul-result-2 : goal.overflow_mul-result-2
overflow_mul-result-2 c =
    let a = c.args in
    omega (
      arith,
      small {a = a.at.top + a.at.high - 8 + 1} {b = a.w} (omega (arith, c.requires.0.high64)) c.requires.0.wide64,
    )

pub returns : goal.returns
returns c = past_bottom c.requires.0.wide c.requires.1 (omega arith)
