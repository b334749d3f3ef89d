-- What becomes of the units of a beaten group, and of everybody else. Proved in proofs/UnitsLost.antt and proofs/UnitsGone.antt.
-- Assumes nothing.
use Rattle.std.specs.Prelude.{ℕ, ◌<◌, ◌≡◌, true, cond, List, [], ◌∷◌, eqb}
use Rattle.position.specs.Bits.{faced}
use Rattle.position.specs.Kind.{supply_kind}
use Rattle.position.specs.Role as Role
use Rattle.position.specs.Board.{Board, board, nowhere}
use Rattle.position.specs.Crowd.{owes_at}
use Rattle.position.specs.Effect.{changes}
use Rattle.ruling.specs.Answers.{AnswersDestroyed, AnswersRetreated}
use Rattle.field.specs.Scene.{scene}
use Rattle.field.specs.Zone.{vacant}
use Rattle.shoves.specs.Shoves.{clears, group_to}
use Rattle.retreat.specs.Words.{Due, answer_to, board_after}

-- unit u is of the group that owes in hex h
pub record Member (b : Board) (h u : ℕ) : Type 0 where
  pub counted : u < b.units.count
  pub owes : owes_at b h u ≡ true

-- "Destroyed units have role 0 and no mark but tried, which stays"
pub record Eliminated (b after : Board) (u : ℕ) : Type 0 where
  pub off : after.units.state.hex u ≡ nowhere
  pub role : after.units.state.role u ≡ Role.none
  pub marks : after.units.state.marks u ≡ faced (b.units.state.marks u) 0

-- it stands on hex x: "role now 0"
pub record Arrived (after : Board) (u x : ℕ) : Type 0 where
  pub there : after.units.state.hex u ≡ x
  pub role : after.units.state.role u ≡ Role.none

-- where a unit of hex h stands once hex x is cleared by these pushes: the first is where its stack goes, the next where the stack goes that is
-- there, and so on, until a hex is vacant
unfoldable pub carried : Board → ℕ → List ℕ → ℕ → ℕ
carried b x [] h = h
carried b x (z ∷ ps) h = cond (vacant (scene b) x) h (cond (eqb h x) z (carried b z ps h))

-- and once the group has gone along its route: "Each step's chain is done before the next step"
unfoldable pub brought_to : Board → ℕ → List ℕ → List ℕ → ℕ → ℕ
brought_to b a [] ps h = h
brought_to b a (x ∷ route) ps h =
    let r = clears b x ps in
    let c = changes b r.done in
    brought_to (changes c (group_to c a x)) x route r.left (carried b x ps h)

-- a group that is destroyed: each of its units is eliminated, and nobody else's hex changes
pub record AllLost (p : List ℕ) (h : ℕ) (after : Board) : Type 0 where
  pub group : (u : ℕ) → Member (board p) h u → Eliminated (board p) after u
  pub others :
      (w : ℕ) → w < (board p).units.count → (Member (board p) h w → ⊥) → after.units.state.hex w ≡ (board p).units.state.hex w

abbrev pub LostRight : Type 0
LostRight =
    (p : List ℕ) (h : ℕ) (route pushes : List ℕ) → Due p h route pushes → AnswersDestroyed (answer_to p h route pushes)
    → AllLost p h (board_after p h route pushes)

-- a group that retreats: its supply units are eliminated, the others stand on the end hex, and everybody else where the pushes say
pub record AllGone (p : List ℕ) (h end : ℕ) (route pushes : List ℕ) (after : Board) : Type 0 where
  pub walkers : (u : ℕ) → Member (board p) h u → ((board p).units.counter.kind u ≡ supply_kind → ⊥) → Arrived after u end
  pub supplies : (u : ℕ) → Member (board p) h u → (board p).units.counter.kind u ≡ supply_kind → Eliminated (board p) after u
  pub others :
      (w : ℕ) → w < (board p).units.count → (Member (board p) h w → ⊥)
      → after.units.state.hex w ≡ brought_to (board p) h route pushes ((board p).units.state.hex w)

abbrev pub GoneRight : Type 0
GoneRight =
    (p : List ℕ) (h end : ℕ) (route pushes : List ℕ) → Due p h route pushes → AnswersRetreated (answer_to p h route pushes) end
    → AllGone p h end route pushes (board_after p h route pushes)
