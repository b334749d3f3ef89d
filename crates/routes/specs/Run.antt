-- Runs: routes whose every hex lies one step further from the start than the one before.
-- Assumes nothing.
use Rattle.std.specs.Prelude.{ℕ, suc, ◌+◌, ◌≡◌, List, [], ◌∷◌, true, length, Some}
use Rattle.grid.specs.Walk.{distance_of}
use Rattle.position.specs.Board.{Board}
use Rattle.position.specs.Ground.{next}
use Rattle.routes.specs.Bears.{refuge}

-- "steps over unblocked sides, into vacant unprohibited land or coast outside Enemy zones": after i steps from the start a group of force f
-- goes on from hex a in direction d into hex x, at distance i + 1
pub record Step (b : Board) (f start i a d x : ℕ) : Type 0 where
  pub leads : next b.map a d ≡ Some x
  pub into : refuge b f x ≡ true
  pub away : distance_of b.map.width start x ≡ i + 1

-- the hexes of a run that goes on from hex a after i steps, and its last hex, which is a itself if it has none
pub data Run (b : Board) (f start : ℕ) : ℕ → ℕ → List ℕ → ℕ → Type 0 where
  stay : {i a : ℕ} → Run b f start i a [] a
  go :
      {i a x last : ℕ} {route : List ℕ} (d : ℕ) → Step b f start i a d x → Run b f start (suc i) x route last
      → Run b f start i a (x ∷ route) last

-- "Legal: n steps .., ending at distance n": a run of n hexes from the start. Words.antt has this line word by word, and the two agree
pub record LegalRoute (b : Board) (f start n : ℕ) (route : List ℕ) : Type 0 where
  pub long : length route ≡ n
  pub last : ℕ
  pub run : Run b f start 0 start route last

-- "If none exists .."
abbrev pub RouteExists : Board → ℕ → ℕ → ℕ → Type 0
RouteExists b f start n = (route : List ℕ) × LegalRoute b f start n route
