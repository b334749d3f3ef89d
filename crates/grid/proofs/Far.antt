-- The closed formula of the distance, on columns x and half rows y, and what a step does to it.
-- Assumes nothing.
use mathlib.Core.Path.{◌≡◌}
use Prim.Native.Nat.{ℕ, suc, ◌+◌, ◌-◌, ◌*◌, ◌%◌, ◌≤◌, ◌<◌}
use native.Mathlib.Nat.{add_comm}
use native.Mathlib.Omega.{arith}
use native.Mathlib.Decide.{dec_le}
use Rattle.grid.specs.Walk.{depth, far}
use Rattle.grid.proofs.Arith.{Order, less, same, more, order}
use Rattle.grid.proofs.Step.{aside, down, Way, ways, Goes}

-- no farther than n steps, with neither a minus nor a maximum
pub record Within (x y x' y' n : ℕ) : Type 0 where
  pub e : x' ≤ x + n
  pub w : x ≤ x' + n
  pub se : x' + y' ≤ x + y + 2 * n + 1
  pub nw : x + y ≤ x' + y' + 2 * n + 1
  pub ne : x' + y ≤ x + y' + 2 * n + 1
  pub sw : x + y' ≤ x' + y + 2 * n + 1

pub far_within : (x y x' y' : ℕ) → Within x y x' y' (far x y x' y')
unfolding far
far_within x y x' y' = omega arith

pub within_far : (x y x' y' n : ℕ) → Within x y x' y' n → far x y x' y' ≤ n
unfolding far
within_far x y x' y' n p = omega arith

-- a step away is at most one step more
moved : {d u v a b a1 b1 x y n : ℕ} → Way d u v → a1 + 1 ≡ a + u → b1 + 2 ≡ b + v → Within a1 b1 x y n → Within a b x y (suc n)
moved k e f p = omega arith

pub one_more : {d c r c1 r1 x y n : ℕ} → Goes d c r c1 r1 → Within c1 (depth c1 r1) x y n → Within c (depth c r) x y (suc n)
one_more {d} g p = moved (ways d g.dir) g.over g.deeper p

-- no distance: the same place
pub no_gap : (c r x y : ℕ) → far c (depth c r) x (depth x y) ≡ 0 → (c ≡ x) × (r ≡ y)
no_gap c r x y e = let p = far_within c (depth c r) x (depth x y) in omega arith

pub none : (x y : ℕ) → far x y x y ≡ 0
none x y = omega (arith, within_far x y x y 0 (omega arith))

-- the six steps towards a place
module _ {a b a1 b1 x y n : ℕ} (p : Within a b x y (suc n)) where
  north : (a1 ≡ a) × (b1 + 2 ≡ b) × (a ≡ x) × (y ≤ b1) → Within a1 b1 x y n
  north q = omega arith

  north_east : (a1 ≡ a + 1) × (b1 + 1 ≡ b) × (a < x) × (y ≤ b) → Within a1 b1 x y n
  north_east q = omega arith

  south_east : (a1 ≡ a + 1) × (b1 ≡ b + 1) × (a < x) × (b ≤ y) → Within a1 b1 x y n
  south_east q = omega arith

  south : (a1 ≡ a) × (b1 ≡ b + 2) × (a ≡ x) × (b1 ≤ y) → Within a1 b1 x y n
  south q = omega arith

  south_west : (a1 + 1 ≡ a) × (b1 ≡ b + 1) × (x < a) × (b ≤ y) → Within a1 b1 x y n
  south_west q = omega arith

  north_west : (a1 + 1 ≡ a) × (b1 + 1 ≡ b) × (x < a) × (y ≤ b) → Within a1 b1 x y n
  north_west q = omega arith

-- the way back is as far
pub back : (x y x' y' : ℕ) → far x y x' y' ≡ far x' y' x y
unfolding far
back x y x' y' = rw (add_comm (x - x') (x' - x), add_comm (y - y') (y' - y))

-- a step from column c and row r that leaves n steps to column x and row y
pub record Closer (w h c r x y n : ℕ) : Type 0 where
  pub dir : ℕ
  pub c1 : ℕ
  pub r1 : ℕ
  pub inw : c1 < w
  pub inh : r1 < h
  pub goes : Goes dir c r c1 r1
  pub left : far c1 (depth c1 r1) x (depth x y) ≡ n

module _ (w h c r x y n : ℕ) (hc : c < w) (hr : r < h) (hx : x < w) (hy : y < h) (e : far c (depth c r) x (depth x y) ≡ suc n) where
  within : Within c (depth c r) x (depth x y) (suc n)
  within = rw e at (far_within c (depth c r) x (depth x y))

  by : (d c1 r1 : ℕ) → (c1 < w) × (r1 < h) × Goes d c r c1 r1 → Within c1 (depth c1 r1) x (depth x y) n → Closer w h c r x y n
  by d c1 r1 q p =
      let near = within_far c1 (depth c1 r1) x (depth x y) n p in
      let away = within_far c (depth c r) x (depth x y) _ (one_more q.2 (far_within c1 (depth c1 r1) x (depth x y))) in
      record { dir = d; c1 = c1; r1 = r1; inw = q.0; inh = q.1; goes = q.2; left = omega arith }

  -- aside to the next column, down where that leads no lower than row y, else up
  go : Order c x → Order r y → Dec (r + c % 2 ≤ y) → Closer w h c r x y n
  unfolding aside down
  go (less i) j (yes k) = by 2 (c + 1) (r + c % 2) (omega arith) (south_east within (omega arith))
  go (less i) j (no k) = by 1 (c + 1) (r + c % 2 - 1) (omega arith) (north_east within (omega arith))
  go (more i) j (yes k) = by 4 (c - 1) (r + c % 2) (omega arith) (south_west within (omega arith))
  go (more i) j (no k) = by 5 (c - 1) (r + c % 2 - 1) (omega arith) (north_west within (omega arith))
  go (same i) (less j) k = by 3 c (r + 1) (omega arith) (south within (omega arith))
  go (same i) (more j) k = by 0 c (r - 1) (omega arith) (north within (omega arith))
  go (same i) (same j) k = absurd (omega (arith, within_far c (depth c r) x (depth x y) 0 (omega arith)))

  pub closer : Closer w h c r x y n
  closer = go (order c x) (order r y) (dec_le (r + c % 2) y)
