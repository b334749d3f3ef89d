-- Beside what is certain: vocabulary of contracts and proofs.
-- The plot as it is drawn from the board.
-- Assumes nothing.
use Rattle.std.specs.Prelude.{ℕ, zero, suc, ◌+◌, ◌≤◌, ◌<◌, ◌≡◌, Bool, true, not, cond, ◌&&◌, List, eqb, length}
use Rattle.grid.specs.declared.region.Region.{Region}
use Rattle.grid.specs.Region.{Inside, place_of}
use Rattle.position.specs.Tally.{any}
use Rattle.position.specs.Bits.{has}
use Rattle.position.specs.Layout.{byte}
use Rattle.position.specs.Board.{Board, Map}
use Rattle.position.specs.Ground.{next}
use Rattle.field.specs.Scene.{scene}
use Rattle.field.specs.Zone.{stands_on, vacant, enemy_zone}
use Rattle.paint.specs.Paint.{Mark, bit, zone_mark, held_mark, spare_mark}
use Rattle.chains.specs.declared.Stand.{Stand}
use Rattle.chains.specs.declared.Stand.TheVariants.{Shut, Free, Loose}
use Rattle.chains.specs.Stand.{firm, stand}
use Rattle.chains.specs.Chain.{leads_to}
use Rattle.plot.specs.Plot.{places, side_bit}

-- the number of a stand
abbrev pub stand_number : Stand → ℕ
stand_number Shut = 0
stand_number Free = 1
stand_number Loose = 2

-- a step from hex x in direction d leads to a hex
unfoldable pub opens : Map → ℕ → ℕ → Bool
opens m x d = leads_to (λ z. true) (next m x d)

-- the bits of the directions before d in which one does
unfoldable pub open_bits : Map → ℕ → ℕ → ℕ
open_bits m x zero = 0
open_bits m x (suc d) = cond (opens m x d) (side_bit d) 0 + open_bits m x d

-- the byte of hex x, drawn for a group of force f in hex `start`
unfoldable pub byte_of : Board → ℕ → ℕ → ℕ → ℕ
byte_of b f start x = open_bits b.map x 6 + stand_number (stand b f start x)

-- unit u stands on hex h, and its stack can't be pushed by force f
unfoldable pub firm_on : Board → ℕ → ℕ → ℕ → Bool
firm_on b f h u = stands_on (scene b) h u && firm b f u

-- the spare mark on the hex of unit u, if that is so; and on those of the units before it
unfoldable pub bars_by : Board → ℕ → ℕ → Mark → ℕ → Bool
bars_by b f u k h = eqb (bit k) spare_mark && firm_on b f h u

unfoldable pub bars_below : Board → ℕ → ℕ → Mark → ℕ → Bool
bars_below b f u k h = eqb (bit k) spare_mark && any (firm_on b f h) u

-- what the marks m say of hex h
pub record ShownAt (b : Board) (f h m : ℕ) : Type 0 where
  pub zone : has zone_mark m ≡ enemy_zone (scene b) f h
  pub held : has held_mark m ≡ not (vacant (scene b) h)
  pub barred : has spare_mark m ≡ any (firm_on b f h) b.units.count

-- the buffer l shows the region so
pub record Shown (b : Board) (f : ℕ) (at : Region) (l : List ℕ) : Type 0 where
  pub each : (h : ℕ) → Inside b.map.width b.map.height at h → ShownAt b f h (byte l (place_of b.map.width at h))

-- it is drawn in the places before i, and shown in the others
pub record DrawnTo (b : Board) (f start : ℕ) (at : Region) (i : ℕ) (l : List ℕ) : Type 0 where
  pub long : length l ≡ places
  pub done :
      (x : ℕ) → Inside b.map.width b.map.height at x → place_of b.map.width at x < i
      → byte l (place_of b.map.width at x) ≡ byte_of b f start x
  pub left :
      (x : ℕ) → Inside b.map.width b.map.height at x → i ≤ place_of b.map.width at x
      → ShownAt b f x (byte l (place_of b.map.width at x))

-- the marks m are those of place i, and the byte r is what is drawn there
abbrev pub ShownIn : Board → ℕ → Region → ℕ → ℕ → Type 0
ShownIn b f at i m =
    (x : ℕ) → Inside b.map.width b.map.height at x → place_of b.map.width at x ≡ i → ShownAt b f x m

abbrev pub ByteIn : Board → ℕ → ℕ → Region → ℕ → ℕ → Type 0
ByteIn b f start at i r =
    (x : ℕ) → Inside b.map.width b.map.height at x → place_of b.map.width at x ≡ i → r ≡ byte_of b f start x

-- the plot l is drawn for a group of force f in hex `start`
pub record Drawn (b : Board) (f start : ℕ) (at : Region) (l : List ℕ) : Type 0 where
  pub long : length l ≡ places
  pub each :
      (x : ℕ) → Inside b.map.width b.map.height at x → byte l (place_of b.map.width at x) ≡ byte_of b f start x
