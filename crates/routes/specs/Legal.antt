-- The test of a route, hex by hex.
-- Assumes nothing.
use Rattle.std.specs.Prelude.{ℕ, suc, ◌+◌, ◌≡◌, List, [], ◌∷◌, Bool, true, ◌&&◌, ◌↔◌, eqb, length}
use Rattle.grid.specs.Walk.{distance_of}
use Rattle.position.specs.Board.{Board}
use Rattle.position.specs.Ground.{joined}
use Rattle.routes.specs.Bears.{refuge}
use Rattle.routes.specs.Run.{LegalRoute}

-- a run may enter hex x after i steps: a refuge at distance i + 1
unfoldable pub enters : Board → ℕ → ℕ → ℕ → ℕ → Bool
enters b f start i x = eqb (distance_of b.map.width start x) (i + 1) && refuge b f x

-- and it gets there from hex a
unfoldable pub steps_to : Board → ℕ → ℕ → ℕ → ℕ → ℕ → Bool
steps_to b f start i a x = joined b.map a x && enters b f start i x

-- the rest of a route is a run that goes on from hex a after i steps
unfoldable pub run_along : Board → ℕ → ℕ → ℕ → ℕ → List ℕ → Bool
run_along b f start i a [] = true
run_along b f start i a (x ∷ route) = steps_to b f start i a x && run_along b f start (suc i) x route

-- a route is legal: this is asked where "route not legal though one exists" is refused
unfoldable pub legal : Board → ℕ → ℕ → ℕ → List ℕ → Bool
legal b f start n route = eqb (length route) n && run_along b f start 0 start route

-- The test is true exactly of the legal routes. Proved in proofs/Legal.antt.
abbrev pub LegalRight : Type 0
LegalRight = (b : Board) (f start n : ℕ) (route : List ℕ) → (legal b f start n route ≡ true) ↔ LegalRoute b f start n route
