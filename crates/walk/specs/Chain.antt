-- What supply is, for any grading of the hexes and any rule of where a step leads: the definition that the walk is proved against.
-- Assumes nothing.
use Rattle.std.specs.Prelude.{ℕ, ◌≤◌, ◌<◌, ◌≡◌, List, ◌⊎◌, length, get_or, Option, Some}
use Rattle.position.specs.declared.View.{View}

-- byte k of a list as a number, 0 past the end
unfoldable pub mark : List ℕ → ℕ → ℕ
mark l k = get_or l k 0

-- "It is supplied if a chain of open hexes over unblocked sides, both ends included, leads from it to a source; a chain of one hex counts."
-- f is the grades of the hexes: 0 closed, 1 open, 2 open and a source. `next a d` is where the step from hex a in direction d leads, if
-- there is a hex and the side is unblocked.
pub data Chain (next : ℕ → ℕ → Option ℕ) (f : ℕ → ℕ) : ℕ → Type 0 where
  source : {a : ℕ} → f a ≡ 2 → Chain next f a
  beside : {a b : ℕ} (d : ℕ) → 0 < f a → next a d ≡ Some b → Chain next f b → Chain next f a

-- n is 1 if A holds, and 0 if not
abbrev pub OneIf : Type 0 → ℕ → Type 0
OneIf A n = ((n ≡ 1) × A) ⊎ ((n ≡ 0) × (A → ⊥))

-- "writes 1 or 0 per hex": out has 1 at each hex from which, by the grades l, "a chain of open hexes over unblocked sides, both ends
-- included, leads .. to a source", and 0 at each other
pub record Reached (next : ℕ → ℕ → Option ℕ) (l out : List ℕ) : Type 0 where
  pub same : length out ≡ length l
  pub each : (k : ℕ) → k < length l → OneIf (Chain next (mark l) k) (mark out k)

-- l holds a grade for each hex of the map
pub record Graded (l : List ℕ) (v : View) : Type 0 where
  pub size : length l ≡ v.hexes
  pub grades : (k : ℕ) → mark l k ≤ 2
