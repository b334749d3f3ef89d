-- Beside what is certain: vocabulary of contracts and proofs.
-- A hex of the map with its column and its row, and its neighbours so: what a walk carries along to need no division.
-- Assumes nothing.
use Rattle.std.specs.Prelude.{ℕ, ◌+◌, ◌/◌, ◌%◌, ◌≡◌, Some, None, Option}
use Rattle.grid.specs.declared.Spot.{Spot}
use Rattle.grid.specs.Map.{On, neighbour_of}

-- a spot is a hex of the map with its own column and row: "Hex number = row x width + column"
pub record SpotOf (w h : ℕ) (s : Spot) : Type 0 where
  pub on : On w h s.hex
  pub column : s.column ≡ s.hex % w
  pub row : s.row ≡ s.hex / w

-- what lies beside a hex in a direction is the neighbour, with the neighbour's column and row
abbrev pub NearOf : ℕ → ℕ → ℕ → ℕ → Option Spot → Type 0
NearOf w h hex dir (Some t) = (neighbour_of w h hex dir ≡ Some t.hex) × SpotOf w h t
NearOf w h hex dir None = neighbour_of w h hex dir ≡ None

-- the spot in column x and row y, both counted from 1, or none where it is so that the map has none there
abbrev pub MovedOf : ℕ → ℕ → ℕ → ℕ → Type 0 → Option Spot → Type 0
MovedOf w h x y off (Some t) = SpotOf w h t × (t.column + 1 ≡ x) × (t.row + 1 ≡ y)
MovedOf w h x y off None = off
