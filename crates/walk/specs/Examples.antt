-- Beside what is certain: examples.
-- Small maps on which the test is computed.
-- Assumes nothing.
use Rattle.std.specs.Prelude.{ℕ, ◌≡◌, refl, true, ◌&&◌, cond, List, [], ◌∷◌, map, eqb, Option, None}
use Rattle.grid.specs.Map.{neighbour_of}
use Rattle.grid.specs.Rulings.{grid_open}
use Rattle.position.specs.Tally.{any}
use Rattle.walk.specs.Chain.{mark}
use Rattle.walk.specs.Sweep.{source_at, joins, touch, sweep, sweeps, chained, tab, reach}

-- 'unfolding sweeping' opens all that the test computes by
unfoldable pub sweeping : ℕ
unfolding grid_open mark any source_at joins touch sweep sweeps chained tab reach
sweeping = 0

-- "a chain of one hex counts": a source alone is supplied, an open hex alone is not
pub alone : map (reach (neighbour_of 1 1)) ((2 ∷ []) ∷ (1 ∷ []) ∷ (0 ∷ []) ∷ []) ≡ (1 ∷ []) ∷ (0 ∷ []) ∷ (0 ∷ []) ∷ []
unfolding sweeping
alone = refl

-- three hexes in a row: a closed one cuts the last off, and so does a blocked side
pub row : reach (neighbour_of 3 1) (2 ∷ 1 ∷ 1 ∷ []) ≡ 1 ∷ 1 ∷ 1 ∷ []
unfolding sweeping
row = refl

pub closed : reach (neighbour_of 3 1) (2 ∷ 0 ∷ 1 ∷ []) ≡ 1 ∷ 0 ∷ 0 ∷ []
unfolding sweeping
closed = refl

-- the steps on a map of w by h hexes, but for one from hex a in direction d and one from hex b in direction e: a side seen from either hex
abbrev pub but : ℕ → ℕ → ℕ → ℕ → ℕ → ℕ → ℕ → ℕ → Option ℕ
but w h a d b e k c = cond (eqb k a && eqb c d) None (cond (eqb k b && eqb c e) None (neighbour_of w h k c))

pub blocked : reach (but 3 1 1 1 2 4) (2 ∷ 1 ∷ 1 ∷ []) ≡ 1 ∷ 1 ∷ 0 ∷ []
unfolding sweeping
blocked = refl

-- a way round the blocked side
pub round : reach (but 3 2 1 1 2 4) (2 ∷ 1 ∷ 1 ∷ 0 ∷ 1 ∷ 1 ∷ []) ≡ 1 ∷ 1 ∷ 1 ∷ 0 ∷ 1 ∷ 1 ∷ []
unfolding sweeping
round = refl

-- 5 x 5: the one source is in the last row, and the way to it winds
abbrev pub winding : List ℕ
winding =
    1 ∷ 1 ∷ 1 ∷ 1 ∷ 1 ∷
    0 ∷ 0 ∷ 0 ∷ 0 ∷ 1 ∷
    1 ∷ 1 ∷ 1 ∷ 1 ∷ 1 ∷
    1 ∷ 0 ∷ 0 ∷ 0 ∷ 0 ∷
    1 ∷ 1 ∷ 1 ∷ 1 ∷ 2 ∷ []

pub far_end : chained (neighbour_of 5 5) winding 0 ≡ true
unfolding sweeping
far_end = refl
