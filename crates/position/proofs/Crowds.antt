-- The counts of units as tallies, and a hex's crowd with a unit and without it.
-- Assumes nothing.
use Prim.Native.Nat.{ℕ, ◌+◌, ◌<◌}
use mathlib.Core.Path.{◌≡◌, refl}
use Rattle.position.specs.Tally.{tally}
use Rattle.position.specs.Board.{Board}
use Rattle.position.specs.Crowd.{crowd, others, holders}
use Rattle.position.proofs.Tallies.{equals, equals_yes, equals_no, but, tally_but_hit, tally_but_miss}

module _ (b : Board) where
  pub crowd_is : (h : ℕ) → crowd b h ≡ tally (equals b.units.state.hex h) b.units.count
  unfolding crowd equals
  crowd_is h = refl

  pub others_is : (u h : ℕ) → others b u h ≡ tally (but (equals b.units.state.hex h) u) b.units.count
  unfolding others equals but
  others_is u h = refl

  pub holders_is : (r : ℕ) → holders b r ≡ tally (equals b.units.state.role r) b.units.count
  unfolding holders equals
  holders_is r = refl

  module _ (u h : ℕ) where
    -- a unit that stands there, counted among the crowd
    pub crowd_with : u < b.units.count → b.units.state.hex u ≡ h → crowd b h ≡ others b u h + 1
    unfolding crowd others equals but
    crowd_with l e = tally_but_hit (equals b.units.state.hex h) u b.units.count l (equals_yes b.units.state.hex h u e)

    -- and one that does not
    pub crowd_without : (b.units.state.hex u ≡ h → ⊥) → crowd b h ≡ others b u h
    unfolding crowd others equals but
    crowd_without e = tally_but_miss (equals b.units.state.hex h) u b.units.count (equals_no b.units.state.hex h u e)
