-- Beside what is certain: vocabulary of contracts and proofs.
-- A part of the map with places of its own: which hexes it has, the place of each, and what lies away from it.
-- Assumes nothing.
use Rattle.std.specs.Prelude.{ℕ, ◌+◌, ◌-◌, ◌*◌, ◌/◌, ◌%◌, ◌≤◌, ◌<◌, ◌≡◌, Bool, cond, ◌&&◌, leb, ltb, Option, Some, None}
use Rattle.grid.specs.declared.region.Region.{Region}
use Rattle.grid.specs.Map.{On, on_map, neighbour_of}
use Rattle.grid.specs.Walk.{distance_of}

-- how many columns and rows of a region may lie beyond the map's edge
abbrev pub margin : ℕ
margin = 8

-- a region is no larger than a map, begins no further off than the margin, and does not end before the map begins
pub record RegionOk (at : Region) : Type 0 where
  pub left : at.left ≤ 64 + margin
  pub top : at.top ≤ 64 + margin
  pub wide : at.wide ≤ 64
  pub high : at.high ≤ 64
  pub reaches : margin ≤ at.top + at.high

-- how many places it has
abbrev pub places_of : Region → ℕ
places_of at = at.wide * at.high

-- it has hex x of a map of w columns and h rows
pub record Inside (w h : ℕ) (at : Region) (x : ℕ) : Type 0 where
  pub on : On w h x
  pub left : at.left ≤ x % w + margin
  pub right : x % w + margin < at.left + at.wide
  pub top : at.top ≤ x / w + margin
  pub bottom : x / w + margin < at.top + at.high

-- and as a test
unfoldable pub inside : ℕ → ℕ → Region → ℕ → Bool
inside w h at x =
    on_map w h x
    && ((leb at.left (x % w + margin) && ltb (x % w + margin) (at.left + at.wide))
    && (leb at.top (x / w + margin) && ltb (x / w + margin) (at.top + at.high)))

-- the place of hex x: row by row
unfoldable pub place_of : ℕ → Region → ℕ → ℕ
place_of w at x = (x / w + margin - at.top) * at.wide + (x % w + margin - at.left)

-- the same of any number, the number of places if the region has it not
unfoldable pub place_in : ℕ → ℕ → Region → ℕ → ℕ
place_in w h at x = cond (inside w h at x) (place_of w at x) (places_of at)

-- which hex has place i
abbrev pub HexOf : ℕ → ℕ → Region → ℕ → Option ℕ → Type 0
HexOf w h at i (Some x) = Inside w h at x × (place_of w at x ≡ i)
HexOf w h at i None = (x : ℕ) → Inside w h at x → place_of w at x ≡ i → ⊥

-- places lie to each other as their hexes do on the map: the region is a small map of its own
pub record Alike (w h : ℕ) (at : Region) : Type 0 where
  pub steps :
      (x d z : ℕ) → Inside w h at x → Inside w h at z → neighbour_of w h x d ≡ Some z
      → neighbour_of at.wide at.high (place_of w at x) d ≡ Some (place_of w at z)
  pub far :
      (x z : ℕ) → Inside w h at x → Inside w h at z → distance_of at.wide (place_of w at x) (place_of w at z) ≡ distance_of w x z

-- the region is the whole map, and a hex's place is its number
pub record Whole (w h : ℕ) (at : Region) : Type 0 where
  pub ok : RegionOk at
  pub size : places_of at ≡ w * h
  pub each : (x : ℕ) → On w h x → Inside w h at x × (place_of w at x ≡ x)

-- it has hex x alone
pub record One (w h x : ℕ) (at : Region) : Type 0 where
  pub ok : RegionOk at
  pub size : places_of at ≡ 1
  pub here : Inside w h at x

-- it has every hex at a distance of `far` or less from hex `start`
pub record Round (w h start far : ℕ) (at : Region) : Type 0 where
  pub ok : RegionOk at
  pub wide : at.wide ≡ 2 * far + 2
  pub high : at.high ≡ 2 * far + 1
  pub near : (x : ℕ) → On w h x → distance_of w start x ≤ far → Inside w h at x
  pub alike : Alike w h at

-- hex x is away from it: the region has neither x nor a neighbour of x
pub record Away (w h : ℕ) (at : Region) (x : ℕ) : Type 0 where
  pub other : Inside w h at x → ⊥
  pub apart : (y d : ℕ) → Inside w h at y → neighbour_of w h x d ≡ Some y → ⊥

-- so are the numbers before `from`, and those from `to` on; those between are hexes of the map
pub record Before (w h : ℕ) (at : Region) (from : ℕ) : Type 0 where
  pub each : (x : ℕ) → x < from → Away w h at x

pub record Past (w h : ℕ) (at : Region) (to : ℕ) : Type 0 where
  pub most : to ≤ w * h
  pub each : (x : ℕ) → to ≤ x → Away w h at x
