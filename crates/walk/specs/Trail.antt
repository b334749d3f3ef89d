-- Beside what is certain: vocabulary of contracts and proofs.
-- The state of a walk that is under way, as the contracts of the functions in it have it. f is the marks now, f₀ the grades at its entry.
-- A mark of 8 or more is that of a hex that was entered: m / 8 - 1 is the direction home, to the hex that it was entered from (6, in which
-- nothing lies, where the walk began), and m % 8 is 0, or 7 once the walk has left the hex. Any other mark is the hex's grade.
-- Assumes nothing.
use Rattle.std.specs.Prelude.{ℕ, ◌+◌, ◌-◌, ◌*◌, ◌/◌, ◌%◌, ◌≤◌, ◌<◌, ◌≡◌, Bool, true, false, List, ◌⊎◌, length, set, Option, Some, None}
use Rattle.grid.specs.Map.{neighbour_of}
use Rattle.grid.specs.declared.Spot.{Spot}
use Rattle.grid.specs.Spot.{SpotOf}
use Rattle.walk.specs.Chain.{mark, Chain}

-- the mark of a hex that was entered in direction d
abbrev pub entered_by : ℕ → ℕ
entered_by d = 8 * ((d + 3) % 6 + 1)

-- the direction after the opposite one of d: where the walk goes on when it came home in direction d
abbrev pub after_home : ℕ → ℕ
after_home d = (d + 3) % 6 + 1

-- the step from hex a in direction d leads to hex n, which is marked m: 1 an open hex that was not entered, 2 a source
pub record Leads (next : ℕ → ℕ → Option ℕ) (f : ℕ → ℕ) (m a d n : ℕ) : Type 0 where
  pub there : next a d ≡ Some n
  pub marked : f n ≡ m

-- it leads to a hex that is so marked, and to none
pub record Opens (next : ℕ → ℕ → Option ℕ) (f : ℕ → ℕ) (m a d : ℕ) : Type 0 where
  pub hex : ℕ
  pub leads : Leads next f m a d hex

abbrev pub Shut : (ℕ → ℕ → Option ℕ) → (ℕ → ℕ) → ℕ → ℕ → ℕ → Type 0
Shut next f m a d = (n : ℕ) → next a d ≡ Some n → f n ≡ m → ⊥

abbrev pub LeadsOf : (ℕ → ℕ → Option ℕ) → (ℕ → ℕ) → ℕ → ℕ → ℕ → Bool → Type 0
LeadsOf next f m a d true = Opens next f m a d
LeadsOf next f m a d false = Shut next f m a d

-- the same where a direction below c is passed over, and leads to none
abbrev pub LooksOf : (ℕ → ℕ → Option ℕ) → (ℕ → ℕ) → ℕ → ℕ → ℕ → ℕ → Bool → Type 0
LooksOf next f m a c d true = Opens next f m a d
LooksOf next f m a c d false = c ≤ d → Shut next f m a d

-- d is the first direction, neither below c nor below k, in which a step from hex a leads to a hex marked m; 6 if there is none
pub record First (next : ℕ → ℕ → Option ℕ) (f : ℕ → ℕ) (m a c k d : ℕ) : Type 0 where
  pub most : d ≤ 6
  pub past : (e : ℕ) → c ≤ e → k ≤ e → e < d → Shut next f m a e
  pub found : d < 6 → Opens next f m a d

-- the first direction from c on of all six, if there is one
abbrev pub FirstOf : (ℕ → ℕ → Option ℕ) → (ℕ → ℕ) → ℕ → ℕ → ℕ → Option ℕ → Type 0
FirstOf next f m a c (Some d) = First next f m a c 0 d × (d < 6)
FirstOf next f m a c None = First next f m a c 0 6

-- what a step asks for: a hex that was entered and not left
pub record Ready (l : List ℕ) (a : ℕ) : Type 0 where
  pub inside : a < length l
  pub entered : 8 ≤ mark l a
  pub still : mark l a % 8 ≡ 0

-- home from hex a, in direction d
abbrev pub HomeOf : ℕ → ℕ → ℕ → ℕ → Option (Spot × ℕ) → Type 0
HomeOf w h a d (Some (t, c)) = (neighbour_of w h a d ≡ Some t.hex) × SpotOf w h t × (c ≡ after_home d)
HomeOf w h a d None = neighbour_of w h a d ≡ None

-- into the hex beside hex a in direction d
abbrev pub EnterOf : ℕ → ℕ → List ℕ → ℕ → ℕ → List ℕ → Option (Spot × ℕ) → Type 0
EnterOf w h l a d out (Some (t, c)) = (neighbour_of w h a d ≡ Some t.hex) × SpotOf w h t × (c ≡ 0) × (out ≡ set l t.hex (entered_by d))
EnterOf w h l a d out None = neighbour_of w h a d ≡ None

-- what one step from hex a, which was done with the directions below c, does to the marks l: it goes to hex b, to look in direction e there
pub data Step (next home : ℕ → ℕ → Option ℕ) (l : List ℕ) (a c : ℕ) (out : List ℕ) (b e : ℕ) : Type 0 where
  down :
      (d : ℕ)
      → First next (mark l) 1 a c 0 d
      → Leads next (mark l) 1 a d b
      → e ≡ 0
      → out ≡ set l b (entered_by d)
      → Step next home l a c out b e
  back :
      First next (mark l) 1 a c 0 6
      → home a (mark l a / 8 - 1) ≡ Some b
      → e ≡ after_home (mark l a / 8 - 1)
      → out ≡ set l a (mark l a + 7)
      → Step next home l a c out b e

-- and the last one
pub record Last (next home : ℕ → ℕ → Option ℕ) (l : List ℕ) (a c : ℕ) (out : List ℕ) : Type 0 where
  pub none : First next (mark l) 1 a c 0 6
  pub nowhere : home a (mark l a / 8 - 1) ≡ None
  pub left : out ≡ set l a (mark l a + 7)

abbrev pub StepOf : ℕ → ℕ → (ℕ → ℕ → Option ℕ) → (ℕ → ℕ → Option ℕ) → List ℕ → ℕ → ℕ → List ℕ → Option (Spot × ℕ) → Type 0
StepOf w h next home l a c out (Some (t, e)) = Step next home l a c out t.hex e × SpotOf w h t
StepOf w h next home l a c out None = Last next home l a c out

-- every hex that was entered is supplied, and every other mark is the grade that it was
pub record Faith (next : ℕ → ℕ → Option ℕ) (f₀ f : ℕ → ℕ) : Type 0 where
  pub kept : (k : ℕ) → f k < 8 → f k ≡ f₀ k
  pub sound : (k : ℕ) → 8 ≤ f k → Chain next f₀ k

-- of each hex that was left, no step enters a hex any more
abbrev pub Looked : (ℕ → ℕ → Option ℕ) → (ℕ → ℕ) → Type 0
Looked next f = (k d : ℕ) → 8 ≤ f k → f k % 8 ≡ 7 → Shut next f 1 k d

-- no walk is under way: each hex that was entered was left
pub record Rest (next : ℕ → ℕ → Option ℕ) (f : ℕ → ℕ) : Type 0 where
  pub looked : Looked next f
  pub over : (k : ℕ) → 8 ≤ f k → f k % 8 ≡ 7

-- what a run of steps keeps, from the marks l to the marks out
pub record Kept (next : ℕ → ℕ → Option ℕ) (l out : List ℕ) : Type 0 where
  pub same : length out ≡ length l
  pub grown : (k : ℕ) → mark out k < 8 → mark out k ≡ mark l k
  pub faith : (f₀ : ℕ → ℕ) → Faith next f₀ (mark l) → Faith next f₀ (mark out)

-- what a walk from hex a leaves
pub record Flooded (next : ℕ → ℕ → Option ℕ) (l : List ℕ) (a : ℕ) (out : List ℕ) : Type 0 where
  pub kept : Kept next l out
  pub rest : Rest next (mark out)
  pub start : 8 ≤ mark out a

-- hex k has no source beside it, or it is closed or supplied already
abbrev pub Apart : (ℕ → ℕ → Option ℕ) → (ℕ → ℕ) → ℕ → Type 0
Apart next f k = f k ≡ 1 → (d : ℕ) → Shut next f 2 k d

-- what the walks from the hexes from a up to b leave
pub record Sown (next : ℕ → ℕ → Option ℕ) (l : List ℕ) (a b : ℕ) (out : List ℕ) : Type 0 where
  pub kept : Kept next l out
  pub rest : Rest next (mark out)
  pub none : (k : ℕ) → a ≤ k → k < b → Apart next (mark out) k

-- what the walks from all hexes leave
pub record Seeded (next : ℕ → ℕ → Option ℕ) (l out : List ℕ) : Type 0 where
  pub kept : Kept next l out
  pub rest : Rest next (mark out)
  pub none : (k : ℕ) → Apart next (mark out) k

-- the last pass: 1 for a hex that is a source or was entered, 0 for another
abbrev pub Done : ℕ → ℕ → Type 0
Done m n = ((2 ≤ m) × (n ≡ 1)) ⊎ ((m < 2) × (n ≡ 0))

pub record Settled (l out : List ℕ) : Type 0 where
  pub same : length out ≡ length l
  pub each : (k : ℕ) → k < length l → Done (mark l k) (mark out k)
