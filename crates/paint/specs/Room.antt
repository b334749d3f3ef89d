-- Beside what is certain: vocabulary of contracts and proofs.
-- A buffer with a byte for each place of a region.
-- Assumes nothing.
use Rattle.std.specs.Prelude.{ℕ, ◌≤◌, ◌≡◌, List, length}
use Rattle.grid.specs.declared.Spot.{Spot}
use Rattle.grid.specs.declared.region.Region.{Region}
use Rattle.grid.specs.Spot.{SpotOf}
use Rattle.grid.specs.Region.{RegionOk, places_of}
use Rattle.position.specs.declared.View.{View}
use Rattle.position.specs.Layout.{hex}

-- the buffer l has room for the region
pub record Room (at : Region) (l : List ℕ) : Type 0 where
  pub region : RegionOk at
  pub long : places_of at ≤ length l

-- unit u stands on the spot s
pub record StandsAt (p : List ℕ) (v : View) (u : ℕ) (s : Spot) : Type 0 where
  pub spot : SpotOf v.width v.height s
  pub here : s.hex ≡ hex p u
