-- Part routes: how far a group can go that has no legal route.
-- Assumes nothing.
use Rattle.std.specs.Prelude.{ℕ, zero, suc, ◌+◌, ◌≤◌, ◌<◌, ◌≡◌, Bool, true, false, cond, not, ◌&&◌, List, ◌↔◌, length}
use Rattle.position.specs.Board.{Board}
use Rattle.routes.specs.Run.{LegalRoute, RouteExists}
use Rattle.routes.specs.Legal.{run_along}
use Rattle.routes.specs.Search.{first_route, found}

-- "the longest run of steps that each keep a legal route's rules, distance at each step equal to the steps made": a run of k steps exists
-- and none is longer
pub record Longest (b : Board) (f start k : ℕ) : Type 0 where
  pub some : RouteExists b f start k
  pub most : (j : ℕ) → RouteExists b f start j → j ≤ k

-- "the owner sends the part route; it must be as long as the longest run .. It uses vacant hexes alone"
pub record PartRoute (b : Board) (f start : ℕ) (route : List ℕ) : Type 0 where
  pub steps : ℕ
  pub longest : Longest b f start steps
  pub run : LegalRoute b f start steps route

-- whether a route, however long it is, is a run
unfoldable pub is_run : Board → ℕ → ℕ → List ℕ → Bool
is_run b f start route = run_along b f start 0 start route

-- no run has more than k steps, for the search finds none of one step more
unfoldable pub no_longer : Board → ℕ → ℕ → ℕ → Bool
no_longer b f start k = not (found (first_route b f start (k + 1)))

-- a route is a part route: this is asked where "a part route that is too short or not legal" is refused
unfoldable pub part_route : Board → ℕ → ℕ → List ℕ → Bool
part_route b f start route = is_run b f start route && no_longer b f start (length route)

-- how far a group gets that owes n hexes: n steps if a legal route exists, else those of the longest run
unfoldable pub farthest : Board → ℕ → ℕ → ℕ → ℕ
farthest b f start zero = 0
farthest b f start (suc n) = cond (found (first_route b f start (suc n))) (suc n) (farthest b f start n)

-- The test is true exactly of the part routes. Proved in proofs/Part.antt.
abbrev pub PartRight : Type 0
PartRight = (b : Board) (f start : ℕ) (route : List ℕ) → (part_route b f start route ≡ true) ↔ PartRoute b f start route

-- Where no run of n steps is found, that is the length of the longest. Proved there too.
abbrev pub FarthestRight : Type 0
FarthestRight =
    (b : Board) (f start n : ℕ) → found (first_route b f start n) ≡ false
    → Longest b f start (farthest b f start n) × (farthest b f start n < n)
