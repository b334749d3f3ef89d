-- Beside what is certain: vocabulary of contracts and proofs.
-- A plot: a small map of its own, a byte for each place, on which pushes are searched for. A byte has what the place is to those who move,
-- 0 shut, 1 free, 2 loose, and 4, 8, 16, 32, 64 and 128 for the directions that a step may take.
-- Assumes nothing.
use Rattle.std.specs.Prelude.{ℕ, zero, suc, ◌-◌, ◌+◌, ◌%◌, cond, List, eqb, set, None}
use Rattle.grid.specs.Map.{neighbour_of}
use Rattle.grid.specs.Walk.{distance_of}
use Rattle.position.specs.Bits.{has}
use Rattle.position.specs.Layout.{byte}
use Rattle.chains.specs.declared.Stand.{Stand}
use Rattle.chains.specs.declared.Stand.TheVariants.{Shut, Free, Loose}
use Rattle.chains.specs.Chain.{Ways, Stands}
use Rattle.chains.specs.Series.{Land}

-- fourteen columns and thirteen rows: all places within six steps of one in the middle, whose column may be even or odd
abbrev pub wide : ℕ
wide = 14

abbrev pub high : ℕ
high = 13

abbrev pub places : ℕ
places = 182

-- what a byte says of its place
unfoldable pub stand_of : ℕ → Stand
stand_of m = cond (eqb (m % 4) 1) Free (cond (eqb (m % 4) 2) Loose Shut)

unfoldable pub stand_in : List ℕ → Stands
stand_in l i = stand_of (byte l i)

-- the bit of a direction; what is no direction has one that no byte has
abbrev pub side_bit : ℕ → ℕ
side_bit zero = 4
side_bit (suc zero) = 8
side_bit (suc (suc zero)) = 16
side_bit (suc (suc (suc zero))) = 32
side_bit (suc (suc (suc (suc zero)))) = 64
side_bit (suc (suc (suc (suc (suc zero))))) = 128
side_bit (suc (suc (suc (suc (suc (suc d)))))) = 256

-- where a step from a place leads
unfoldable pub next_in : List ℕ → Ways
next_in l i d = cond (has (side_bit d) (byte l i)) (neighbour_of wide high i d) None

-- the plot as a land on which the retreat starts from the place `home`
unfoldable pub land_in : ℕ → List ℕ → Land
land_in home l = record { hexes = places; next = next_in l; far = distance_of wide home }

-- the byte m with another stand: 0, 1 or 2
unfoldable pub restood : ℕ → ℕ → ℕ
restood m k = m - m % 4 + k

-- a chain is done: place x is free and place y, its last, is loose
unfoldable pub shifted : List ℕ → ℕ → ℕ → List ℕ
shifted l x y = let m = set l x (restood (byte l x) 1) in set m y (restood (byte m y) 2)
