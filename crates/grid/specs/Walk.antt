-- Walks over the map, and the distance of two hexes: "the fewest steps over map hexes, terrain ignored".
-- Assumes nothing.
use Rattle.std.specs.Prelude.{ℕ, zero, suc, ◌+◌, ◌-◌, ◌*◌, ◌/◌, ◌%◌, ◌≤◌, max, ◌≡◌, Some}
use Rattle.grid.specs.Map.{On, neighbour_of}

-- b is a neighbour of a
pub record Adjacent (w h a b : ℕ) : Type 0 where
  pub dir : ℕ
  pub leads : neighbour_of w h a dir ≡ Some b

-- a walk of n steps from a hex to a hex, each step to a neighbour on the map
pub data Walk (w h : ℕ) : ℕ → ℕ → ℕ → Type 0 where
  here : {a : ℕ} → On w h a → Walk w h a a zero
  step : {a b c n : ℕ} (dir : ℕ) → neighbour_of w h a dir ≡ Some b → Walk w h b c n → Walk w h a c (suc n)

-- n is the distance of a and b: a walk has n steps, and none has fewer
pub record Distance (w h a b n : ℕ) : Type 0 where
  pub reached : Walk w h a b n
  pub least : (m : ℕ) → Walk w h a b m → n ≤ m

-- how far apart two numbers are
abbrev pub gap_of : ℕ → ℕ → ℕ
gap_of a b = (a - b) + (b - a)

-- how far down a column and row lie, in half rows: an odd column lies half a row lower
abbrev pub depth : ℕ → ℕ → ℕ
depth c r = 2 * r + c % 2

-- Each column between takes a step, which also covers half a row. Of the half rows that this leaves, two take a step.
unfoldable pub far : ℕ → ℕ → ℕ → ℕ → ℕ
far x y x' y' = max (gap_of x x') ((gap_of x x' + gap_of y y') / 2)

-- the distance of two hexes of a map w wide, in closed form
unfoldable pub distance_of : ℕ → ℕ → ℕ → ℕ
distance_of w a b = far (a % w) (depth (a % w) (a / w)) (b % w) (depth (b % w) (b / w))
