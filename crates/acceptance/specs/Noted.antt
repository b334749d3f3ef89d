-- Beside what is certain: vocabulary of contracts and proofs.
-- The hexes of units that owe, noted in a list in one pass over the units.
-- Assumes nothing.
use Rattle.std.specs.Prelude.{ℕ, ◌+◌, ◌≤◌, ◌≡◌, Bool, true, false, not, ◌&&◌, ◌||◌, List, length, get_or, eqb}
use Rattle.position.specs.Tally.{tally, any}
use Rattle.position.specs.Layout.{route_count}
use Rattle.position.specs.Role as Role
use Rattle.position.specs.Board.{Board}
use Rattle.position.specs.Crowd.{owes_at}

-- hex h is among the first k of list s
unfoldable pub among : List ℕ → ℕ → ℕ → Bool
among s k h = any (λ j. eqb (get_or s j 0) h) k

-- hex h is noted behind the first k of list s, which so becomes t, unless it is among them; then there are r, one more than
-- there are routes where it found no room
pub record NoteOf (s t : List ℕ) (k h r : ℕ) : Type 0 where
  pub long : length t ≡ length s
  pub known : among s k h ≡ true → r ≡ k
  pub fresh : among s k h ≡ false → r ≡ k + 1
  pub here : r ≤ route_count → (x : ℕ) → among t r x ≡ (eqb h x || among s k x)

-- unit u owes, the lowest-numbered in its hex that does
unfoldable pub heads : Board → ℕ → Bool
heads b u = eqb (b.units.state.role u) Role.owes && not (any (owes_at b (b.units.state.hex u)) u)

-- the first k of list s are the hexes of the units below u that owe, each once
pub record Noted (b : Board) (u k : ℕ) (s : List ℕ) : Type 0 where
  pub long : length s ≡ route_count
  pub many : k ≡ tally (heads b) u
  pub here : (h : ℕ) → among s k h ≡ any (owes_at b h) u
