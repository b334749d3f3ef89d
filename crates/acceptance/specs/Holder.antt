-- Beside what is certain: vocabulary of contracts and proofs.
-- The first unit that has a role, and how many hexes hold units that owe, counted up to seven.
-- Assumes nothing.
use Rattle.std.specs.Prelude.{ℕ, ◌≤◌, ◌<◌, ◌≡◌, Option, None, Some}
use Rattle.position.specs.Board.{Board}

-- unit n is the first that has role r
pub record FirstOf (b : Board) (r n : ℕ) : Type 0 where
  pub below : n < b.units.count
  pub holds : b.units.state.role n ≡ r
  pub none : (k : ℕ) → k < n → b.units.state.role k ≡ r → ⊥

-- the first unit that has role r, if one has it
abbrev pub HolderOf : Board → ℕ → Option ℕ → Type 0
HolderOf b r None = (k : ℕ) → k < b.units.count → b.units.state.role k ≡ r → ⊥
HolderOf b r (Some n) = FirstOf b r n

-- r is k, or 7 where k is 7 or more
pub record UpToSeven (k r : ℕ) : Type 0 where
  pub small : r ≤ 7
  pub exact : r < 7 → r ≡ k
  pub over : r ≡ 7 → 7 ≤ k
