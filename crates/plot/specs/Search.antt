-- Beside what is certain: vocabulary of contracts and proofs.
-- The search on a plot.
-- Assumes nothing.
use Rattle.std.specs.Prelude.{ℕ, suc, Bool, List}
use Rattle.position.specs.Tally.{any}
use Rattle.chains.specs.Chain.{Stands}
use Rattle.chains.specs.Serves.{on_with, on_over, serves}
use Rattle.plot.specs.Plot.{places, stand_in, land_in}

-- how the group, in place x after i steps and one more, goes on with k steps
unfoldable pub further : ℕ → List ℕ → ℕ → ℕ → Stands → ℕ → Bool
further home l k i s x = serves (land_in home l) s k (suc i) x

-- a series of k more steps goes on from place a after i steps; and over place x, with a chain to place y, and with any chain
unfoldable pub serves_in : ℕ → List ℕ → ℕ → ℕ → ℕ → Bool
serves_in home l k i a = serves (land_in home l) (stand_in l) k i a

unfoldable pub over_in : ℕ → List ℕ → ℕ → ℕ → ℕ → ℕ → Bool
over_in home l k i a x = on_over (land_in home l) (further home l k i) (stand_in l) i a x

unfoldable pub with_in : ℕ → List ℕ → ℕ → ℕ → ℕ → ℕ → ℕ → Bool
with_in home l k i a x y = on_with (land_in home l) (further home l k i) (stand_in l) a x y

unfoldable pub shoves_in : ℕ → List ℕ → ℕ → ℕ → ℕ → ℕ → Bool
shoves_in home l k i a x = any (with_in home l k i a x) places
