-- `row::first` meets its contract: the row ends on the map.
-- Assumes nothing.
use Prim.Native.Nat.{suc, ◌*◌, ◌≤◌}
use mathlib.Core.Path.{refl}
use native.Mathlib.Nat.{mul-le-mul_right, suc-mul, mul_comm}
use native.Mathlib.Omega.{arith}
use Rattle.grid.proofs.Arith.{small}
use Rattle.grid.proofs.row.first.Goals as goal

pub overflow_mul-result : goal.overflow_mul-result
overflow_mul-result c =
    let o = c.requires.0 in
    omega (arith, small {a = c.args.row} {b = c.args.w} (omega (arith, o.high64, c.requires.1)) o.wide64)

pub returns : goal.returns
returns c =
    let a = c.args in
    let s : suc a.row * a.w ≤ a.h * a.w = mul-le-mul_right a.w c.requires.1 in
    (refl, omega (arith, s, suc-mul a.row a.w, mul_comm a.w a.h))
