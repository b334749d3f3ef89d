-- The hexes within so many steps of a start.
-- Assumes nothing.
use Rattle.std.specs.Prelude.{Some}
use Prim.Native.Nat.{ℕ, suc, ◌≤◌}
use mathlib.Core.Path.{◌≡◌}
use native.Mathlib.Omega.{arith}
use Rattle.grid.specs.Map.{On, neighbour_of}
use Rattle.grid.specs.Walk.{distance_of}
use Rattle.grid.proofs.Laws.{on_map_lem, beside_one, triangle, same_zero}

-- hex x of a map of w columns and h rows lies within k steps of hex `start`
pub record Near (w h start k x : ℕ) : Type 0 where
  pub on : On w h x
  pub steps : distance_of w start x ≤ k

module _ (w h start : ℕ) where
  -- the start is near itself, and what is near is near by more steps
  pub near_start : On w h start → Near w h start 0 start
  near_start o = record { on = o; steps = omega (arith, same_zero w start) }

  pub near_more : (k m x : ℕ) → Near w h start k x → k ≤ m → Near w h start m x
  near_more k m x n l = record { on = n.on; steps = omega (arith, n.steps, l) }

  -- a step leads a step further at most
  pub near_further : On w h start → (k x d z : ℕ) → Near w h start k x → neighbour_of w h x d ≡ Some z → Near w h start (suc k) z
  near_further o k x d z n e =
      let q = on_map_lem w h x d z e in
      record { on = q; steps = omega (arith, n.steps, beside_one w h x d z e, triangle o n.on q) }
