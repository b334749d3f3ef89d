-- Beside what is certain: vocabulary of contracts and proofs.
-- The places of a chain so far: three in one number.
-- Assumes nothing.
use Rattle.std.specs.Prelude.{ℕ, ◌/◌, ◌%◌, ◌≤◌, ◌≡◌, cond, not, List, [], ◌∷◌, eqb}
use Rattle.position.specs.Tally.{tally}
use Rattle.field.specs.Listed.{named}
use Rattle.plot.specs.Plot.{places}

-- a place before others, or none
unfoldable pub before : ℕ → List ℕ → List ℕ
before i used = cond (eqb i places) used (i ∷ used)

-- the last place comes first
unfoldable pub trail_of : ℕ → List ℕ
trail_of t = before (t % 256) (before (t / 256 % 256) (before (t / 65536) []))

-- how many places of the plot a chain has not used: "no hex comes twice in one chain", so there are fewer with each push
unfoldable pub unused : List ℕ → ℕ
unused used = tally (λ k. not (named used k)) places

-- a chain in which `left` stacks may still be pushed: as many places are filled as stacks were, and the group's own
pub record TrailOk (t left : ℕ) : Type 0 where
  pub few : left ≤ 3
  pub two : 2 ≤ left → t / 65536 ≡ places
  pub three : 3 ≤ left → t / 256 % 256 ≡ places
