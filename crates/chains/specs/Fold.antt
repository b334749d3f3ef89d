-- Beside what is certain: vocabulary of contracts and proofs.
-- The same series on a smaller copy of the land around a start. At most three steps are taken, and a chain pushes at most three stacks,
-- so nothing beyond six steps is looked at.
-- Assumes nothing.
use Rattle.std.specs.Prelude.{ℕ, suc, ◌+◌, ◌≤◌, ◌<◌, ◌≡◌, List, map, ◌↔◌, length, Option, Some, None}
use Rattle.chains.specs.Chain.{Stands}
use Rattle.chains.specs.Series.{Land, Series, SeriesFrom, Bounded}
use Rattle.chains.specs.Follows.{follows}
use Rattle.chains.specs.Serves.{serves}

-- where a step leads, on the copy
unfoldable pub moved : (ℕ → ℕ) → Option ℕ → Option ℕ
moved at (Some z) = Some (at z)
moved at None = None

-- land g' is a copy of land g: hex x of g is `at x` on g', and `Near k x` says that hex x lies within k steps of the start
pub record Folds (g g' : Land) (at : ℕ → ℕ) (Near : ℕ → ℕ → Type 0) : Type 0 where
  pub more : (k m x : ℕ) → Near k x → k ≤ m → Near m x
  pub further : (k x d z : ℕ) → Near k x → g.next x d ≡ Some z → Near (suc k) z
  -- steps lead from a hex of the copy as they do from the hex,
  pub ways : (x d : ℕ) → Near 5 x → d < 6 → g'.next (at x) d ≡ moved at (g.next x d)
  pub far : (x : ℕ) → Near 6 x → g'.far (at x) ≡ g.far x
  -- and no other hex has the same copy
  pub one : (x z : ℕ) → Near 6 x → at z ≡ at x → z ≡ x

-- a hex of the copy is to those who move what the hex is
pub record Agrees (at : ℕ → ℕ) (Near : ℕ → ℕ → Type 0) (s s' : Stands) : Type 0 where
  pub same : (x : ℕ) → Near 6 x → s' (at x) ≡ s x

-- a series, of which this route and these pushes are the copy
pub record Original (g : Land) (at : ℕ → ℕ) (s : Stands) (i a : ℕ) (route' pushes' : List ℕ) : Type 0 where
  pub route : List ℕ
  pub pushes : List ℕ
  pub entered : map at route ≡ route'
  pub pushed : map at pushes ≡ pushes'
  pub series : Series g s i a route pushes

module _ (g g' : Land) (at : ℕ → ℕ) (Near : ℕ → ℕ → Type 0) (s s' : Stands) where
  -- A series is one on the copy too, and one on the copy is the copy of one. Proved in proofs/Fold.antt, and so are the next.
  abbrev pub SeriesThere : Type 0
  SeriesThere =
      (i a : ℕ) → Near i a → (route pushes : List ℕ) → i + length route ≤ 3 → Series g s i a route pushes
      → Series g' s' i (at a) (map at route) (map at pushes)

  abbrev pub SeriesBack : Type 0
  SeriesBack =
      (i a : ℕ) → Near i a → (route' pushes' : List ℕ) → i + length route' ≤ 3 → Series g' s' i (at a) route' pushes'
      → Original g at s i a route' pushes'

  -- So there is one exactly if there is one on the copy,
  abbrev pub SameSeries : Type 0
  SameSeries = (n i a : ℕ) → Near i a → i + n ≤ 3 → SeriesFrom g s n i a ↔ SeriesFrom g' s' n i (at a)

  -- the search finds the same,
  abbrev pub SameSearch : Type 0
  SameSearch = Bounded g → Bounded g' → (n i a : ℕ) → Near i a → i + n ≤ 3 → serves g s n i a ≡ serves g' s' n i (at a)

  -- and the test answers the same.
  abbrev pub SameTest : Type 0
  SameTest =
      (i a : ℕ) → Near i a → (route pushes : List ℕ) → i + length route ≤ 3
      → follows g s i a route pushes ≡ follows g' s' i (at a) (map at route) (map at pushes)
