-- Beside what is certain: vocabulary of contracts and proofs.
-- The test of an order on a plot: its hexes by their places.
-- Assumes nothing.
use Rattle.std.specs.Prelude.{ℕ, suc, ◌≤◌, ◌<◌, ◌≡◌, Bool, false, List, [], ◌∷◌, map, drop, length, Option, Some, None}
use Rattle.chains.specs.Chain.{most}
use Rattle.chains.specs.Follows.{Taken, up_to, wrong, takes, follows}
use Rattle.plot.specs.Plot.{places, stand_in, next_in, land_in, shifted}

-- the places of a list of hexes from number k on, by the place of each
unfoldable pub places_from : (ℕ → ℕ) → ℕ → List ℕ → List ℕ
places_from place k hexes = map place (drop k hexes)

-- what an answer says that a chain took of the pushes sent
abbrev pub took_of : (ℕ → ℕ) → List ℕ → Option (ℕ × ℕ) → Taken
took_of place pushes (Some (y, k)) = up_to y (places_from place k pushes)
took_of place pushes None = wrong

-- the group goes on from place a after i steps, along the rest of the route and with the pushes from number k on
unfoldable pub follows_in : (ℕ → ℕ) → ℕ → List ℕ → ℕ → ℕ → List ℕ → ℕ → List ℕ → Bool
follows_in place home l i a route k pushes =
    follows (land_in home l) (stand_in l) i a (places_from place i route) (places_from place k pushes)

-- how the group goes on from place x after i steps along the places `rest`, by what its last step took of the pushes
abbrev pub goes_on : (ℕ → ℕ) → ℕ → List ℕ → ℕ → ℕ → List ℕ → List ℕ → Option (ℕ × ℕ) → Bool
goes_on place home l i x rest pushes None = false
goes_on place home l i x rest pushes (Some (y, k)) =
    follows (land_in home l) (stand_in l) i x rest (places_from place k pushes)

-- a step from place a into place x, whatever follows it: plot l has become plot m
pub record Stepped (place : ℕ → ℕ) (home : ℕ) (l m : List ℕ) (i a x k : ℕ) (pushes : List ℕ) (r : Option (ℕ × ℕ)) : Type 0 where
  pub long : length m ≡ length l
  pub used : (y j : ℕ) → r ≡ Some (y, j) → (x < places) × (j ≤ length pushes)
  pub left_to_ask :
      (rest : List ℕ)
      → follows (land_in home l) (stand_in l) i a (x ∷ rest) (places_from place k pushes)
      ≡ goes_on place home m (suc i) x rest pushes r

-- what a chain from the stack in place h on takes of the pushes from number k on: its last place is one of the plot, and the push that it
-- leaves is one of those sent, or there is none left
pub record TookIn (place : ℕ → ℕ) (l used : List ℕ) (left h k : ℕ) (pushes : List ℕ) (r : Option (ℕ × ℕ)) : Type 0 where
  pub took : took_of place pushes r ≡ takes (next_in l) (stand_in l) used left h (places_from place k pushes)
  pub ends : (y j : ℕ) → r ≡ Some (y, j) → (y < places) × (j ≤ length pushes)

-- a chain from place x, entered by the group from place a: what it takes, and plot l has become plot m as it leaves it
pub record PushedOut (place : ℕ → ℕ) (l m : List ℕ) (a x k : ℕ) (pushes : List ℕ) (r : Option (ℕ × ℕ)) : Type 0 where
  pub took :
      took_of place pushes r ≡ takes (next_in l) (stand_in l) (a ∷ []) most x (places_from place k pushes)
  pub left : (y j : ℕ) → r ≡ Some (y, j) → (m ≡ shifted l x y) × (y < places) × (j ≤ length pushes)
  pub kept : r ≡ None → m ≡ l
