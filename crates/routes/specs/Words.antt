-- A legal route in the document's words.
-- Assumes nothing.
use Rattle.std.specs.Prelude.{ℕ, ◌≡◌, List, [], ◌∷◌, true, ◌↔◌, length, Some}
use Rattle.grid.specs.Map.{On}
use Rattle.grid.specs.Walk.{Distance}
use Rattle.position.specs.Board.{Board}
use Rattle.position.specs.Ground.{next}
use Rattle.routes.specs.Bears.{refuge}
use Rattle.routes.specs.Run.{LegalRoute}

-- "steps over unblocked sides, into vacant unprohibited land or coast outside Enemy zones": the hexes entered from hex a on, and the last
pub data Steps (b : Board) (f : ℕ) : ℕ → List ℕ → ℕ → Type 0 where
  stop : {a : ℕ} → Steps b f a [] a
  enter :
      {a x last : ℕ} {route : List ℕ} (d : ℕ) → next b.map a d ≡ Some x → refuge b f x ≡ true → Steps b f x route last
      → Steps b f a (x ∷ route) last

-- "Legal: n steps .., ending at distance n."
pub record Worded (b : Board) (f start n : ℕ) (route : List ℕ) : Type 0 where
  pub long : length route ≡ n
  pub last : ℕ
  pub steps : Steps b f start route last
  pub ending : Distance b.map.width b.map.height start last n

-- The two say the same: what ends at distance n after n steps was at distance i after i steps. Proved in proofs/Words.antt.
abbrev pub RunsAsWorded : Type 0
RunsAsWorded =
    (b : Board) (f start n : ℕ) (route : List ℕ) → On b.map.width b.map.height start
    → LegalRoute b f start n route ↔ Worded b f start n route
