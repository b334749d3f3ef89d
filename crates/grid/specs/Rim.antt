-- Beside what is certain: vocabulary of contracts and proofs.
-- The rim of the map: its top row, its bottom row and its right column.
-- Assumes nothing.
use Rattle.std.specs.Prelude.{ℕ, ◌+◌, ◌*◌, ◌%◌, ◌≤◌, ◌<◌, ◌≡◌, None}
use Rattle.grid.specs.Map.{On, neighbour_of}

-- a hex of the rim: between the top row and the bottom row it is the last of its row
pub record RimHex (w h x : ℕ) : Type 0 where
  pub on : On w h x
  pub last : w ≤ x → x + w < w * h → x % w + 1 ≡ w

-- r is the rim's next hex after x, or the number of hexes: N, NE and SE of each hex between them (directions 0, 1 and 2) lies a hex
pub record RimNext (w h x r : ℕ) : Type 0 where
  pub later : x < r
  pub most : r ≤ w * h
  pub rim : r < w * h → RimHex w h r
  pub between : (y d : ℕ) → x < y → y < r → d < 3 → neighbour_of w h y d ≡ None → ⊥
