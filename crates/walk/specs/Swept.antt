-- Beside what is certain: vocabulary of contracts and proofs.
-- What comes before the walk and what both leave: sweeps over the map that make a source of an open hex with a source beside it. That
-- changes nothing in which hexes a chain joins to a source.
-- Assumes nothing.
use Rattle.std.specs.Prelude.{ℕ, ◌+◌, ◌*◌, ◌≤◌, ◌<◌, ◌≡◌, List, ◌⊎◌, length, Option}
use Rattle.grid.specs.Map.{neighbour_of}
use Rattle.walk.specs.Chain.{mark, Chain}
use Rattle.walk.specs.Trail.{Opens, Apart}

-- none of the hexes from a up to b is marked m
abbrev pub None : (ℕ → ℕ) → ℕ → ℕ → ℕ → Type 0
None f a b m = (k : ℕ) → a ≤ k → k < b → f k ≡ m → ⊥

-- no open hex of row r has a source beside it, on whichever side
abbrev pub RowApart : ℕ → ℕ → (ℕ → ℕ) → ℕ → Type 0
RowApart w h f r = (k : ℕ) → r * w ≤ k → k < r * w + w → Apart (neighbour_of w h) f k

-- a source lies beside hex a
pub record Joined (next : ℕ → ℕ → Option ℕ) (f : ℕ → ℕ) (a : ℕ) : Type 0 where
  pub dir : ℕ
  pub opens : Opens next f 2 a dir

-- a grade stays, or that of an open hex becomes that of a source
abbrev pub Became : ℕ → ℕ → Type 0
Became m n = (n ≡ m) ⊎ ((m ≡ 1) × (n ≡ 2))

-- what sweeps make of the grades l: a chain joins each new source to one that was there
pub record Swept (next : ℕ → ℕ → Option ℕ) (l out : List ℕ) : Type 0 where
  pub same : length out ≡ length l
  pub each : (k : ℕ) → Became (mark l k) (mark out k)
  pub sound : (k : ℕ) → mark out k ≡ 2 → Chain next (mark l) k

-- what sweeps and walks make of the grades l: 2 or more at the hexes that a chain joins to a source, and at others their grade
pub record Walked (next : ℕ → ℕ → Option ℕ) (l out : List ℕ) : Type 0 where
  pub same : length out ≡ length l
  pub each : (k : ℕ) → ((2 ≤ mark out k) × Chain next (mark l) k) ⊎ ((mark out k < 2) × (Chain next (mark l) k → ⊥))
  pub kept : (k : ℕ) → mark out k < 2 → mark out k ≡ mark l k
