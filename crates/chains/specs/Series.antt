-- A series of pushes: the steps of a retreat, each with its chain.
-- Assumes nothing.
use Rattle.std.specs.Prelude.{ℕ, suc, ◌*◌, ◌<◌, ◌≡◌, List, [], ◌∷◌, ◌++◌, length, Some}
use Rattle.grid.specs.Walk.{distance_of}
use Rattle.position.specs.Board.{Board}
use Rattle.position.specs.Ground.{next}
use Rattle.chains.specs.declared.Stand.TheVariants.{Free, Loose}
use Rattle.chains.specs.Stand.{stand}
use Rattle.chains.specs.Chain.{Ways, Stands, Chain, most, after}

-- what a series runs over: so many hexes, the ways between them, and how far a hex lies from where the retreat started
pub record Land : Type 0 where
  pub hexes : ℕ
  pub next : Ways
  pub far : ℕ → ℕ

unfoldable pub land_of : Board → ℕ → Land
land_of b start =
    record { hexes = b.map.width * b.map.height; next = next b.map; far = distance_of b.map.width start }

-- after i steps the group stands in hex x, having gone in direction d from hex a over an unblocked side, at distance i
pub record Onto (g : Land) (i a d x : ℕ) : Type 0 where
  pub dir : d < 6
  pub leads : g.next a d ≡ Some x
  pub away : g.far x ≡ i

-- the hexes that the group enters from hex a on, after i steps, and the hexes that pushed stacks go to
pub data Series (g : Land) : Stands → ℕ → ℕ → List ℕ → List ℕ → Type 0 where
  stay : {s : Stands} {i a : ℕ} → Series g s i a [] []
  -- "A step into a vacant hex takes none."
  walk :
      {s : Stands} {i a x : ℕ} {route pushes : List ℕ} (d : ℕ) → Onto g (suc i) a d x → s x ≡ Free
      → Series g s (suc i) x route pushes → Series g s i a (x ∷ route) pushes
  -- "Each step's chain is done before the next step."
  shove :
      {s : Stands} {i a x y : ℕ} {route chain pushes : List ℕ} (d : ℕ) → Onto g (suc i) a d x → s x ≡ Loose
      → Chain g.next s (a ∷ []) most x chain y → Series g (after s x y) (suc i) x route pushes
      → Series g s i a (x ∷ route) (chain ++ pushes)

-- a series of k more steps from hex a on, after i steps
pub record SeriesFrom (g : Land) (s : Stands) (k i a : ℕ) : Type 0 where
  pub route : List ℕ
  pub pushes : List ℕ
  pub long : length route ≡ k
  pub series : Series g s i a route pushes

-- every step leads to a hex of the land
pub record Bounded (g : Land) : Type 0 where
  pub below : (h d z : ℕ) → g.next h d ≡ Some z → z < g.hexes

-- route and pushes are legal for a group of force f in hex `start` that owes n hexes
pub record LegalSeries (b : Board) (f start n : ℕ) (route pushes : List ℕ) : Type 0 where
  pub long : length route ≡ n
  pub series : Series (land_of b start) (stand b f start) 0 start route pushes

-- "such a series of pushes exists"
pub record SeriesExists (b : Board) (f start n : ℕ) : Type 0 where
  pub route : List ℕ
  pub pushes : List ℕ
  pub legal : LegalSeries b f start n route pushes
