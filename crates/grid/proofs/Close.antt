-- Hexes that are close by steps are close by columns and rows.
-- Assumes nothing.
use Rattle.std.specs.Prelude.{Some}
use mathlib.Core.Path.{◌≡◌}
use Prim.Native.Nat.{ℕ, ◌+◌, ◌/◌, ◌%◌, ◌≤◌}
use native.Mathlib.Omega.{arith}
use Rattle.grid.specs.Map.{neighbour_of}
use Rattle.grid.specs.Walk.{depth, distance_of}
use Rattle.grid.proofs.Far.{Within, far_within}
use Rattle.grid.proofs.Laws.{beside_one}

-- columns and rows differ by n at most
pub record Close (n c r c' r' : ℕ) : Type 0 where
  pub east : c' ≤ c + n
  pub west : c ≤ c' + n
  pub south : r' ≤ r + n
  pub north : r ≤ r' + n

-- n steps lead no further than n columns and n rows
within_close : (c r c' r' n : ℕ) → Within c (depth c r) c' (depth c' r') n → Close n c r c' r'
within_close c r c' r' n p =
    record { east = p.e; west = p.w; south = omega (arith, p); north = omega (arith, p) }

pub far_close : (w a b n : ℕ) → distance_of w a b ≤ n → Close n (a % w) (a / w) (b % w) (b / w)
unfolding distance_of
far_close w a b n l =
    let c = within_close (a % w) (a / w) (b % w) (b / w) (distance_of w a b) (far_within (a % w) (depth (a % w) (a / w)) (b % w) (depth (b % w) (b / w))) in
    record { east = omega (arith, c.east); west = omega (arith, c.west); south = omega (arith, c.south); north = omega (arith, c.north) }

-- a neighbour lies in the column and the row beside at most
pub beside_close : (w h a d b : ℕ) → neighbour_of w h a d ≡ Some b → Close 1 (a % w) (a / w) (b % w) (b / w)
beside_close w h a d b e = far_close w a b 1 (omega (arith, beside_one w h a d b e))
