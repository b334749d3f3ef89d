-- Beside what is certain: vocabulary of contracts and proofs.
-- What the functions that read and write a position ask for and answer.
-- Assumes nothing.
use Rattle.std.specs.Prelude.{ℕ, ◌+◌, ◌≤◌, ◌<◌, ◌≡◌, List, Bool, true, false, length, Option, Some, None}
use Rattle.position.specs.Layout as Layout
use Rattle.position.specs.Layout.{ViewOf, Fits}
use Rattle.position.specs.Shape.{In, Shaped}
use Rattle.position.specs.declared.View.{View}

-- the bodies of p lie as they should, and v is its view: what reading and writing ask for
pub record Laid (p : List ℕ) (v : View) : Type 0 where
  pub shaped : Shaped p
  pub view : ViewOf p v
  pub fits : Fits (length p) v

-- a test's answer: yes is the fact, no its contrary
abbrev pub Says : Bool → Type 0 → Type 0
Says true A = A
Says false A = A → ⊥

-- a number that was read: which, and that it is small
pub record Read (want limit r : ℕ) : Type 0 where
  pub is : r ≡ want
  pub small : r < limit

-- the first number below a limit, or none where that is the limit
abbrev pub Sought : ℕ → ℕ → Option ℕ → Type 0
Sought want limit (Some r) = (r ≡ want) × (r < limit)
Sought want limit None = want ≡ limit

-- the counts of p are within their limits, its bodies fill it, and v is its view
pub record Sized (p : List ℕ) (v : View) : Type 0 where
  pub columns : In 1 (Layout.columns p) 12
  pub width : In 1 (Layout.width p) 64
  pub height : In 1 (Layout.height p) 64
  pub count : Layout.count p ≤ Layout.units_most
  pub whole : length p ≡ Layout.desk_at p + Layout.desk_length p
  pub view : ViewOf p v
  pub fits : Fits (length p) v

abbrev pub SizedOf : List ℕ → Option View → Type 0
SizedOf p (Some v) = Sized p v
SizedOf p None = Shaped p → ⊥

abbrev pub LaidOf : List ℕ → Option View → Type 0
LaidOf p (Some v) = Laid p v
LaidOf p None = Shaped p → ⊥
