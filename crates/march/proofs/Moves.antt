-- Laws of a move: each test by its cases, and the two writes of a move as its changes.
-- Assumes nothing.
use Prim.Native.Nat.{ℕ, ◌≤◌, ◌<◌}
use mathlib.Core.Path.{◌≡◌, ap₂, ◌∙◌}
use mathlib.Core.Bool.{true, false, and-false}
use mathlib.Core.List.{List}
use native.Mathlib.Omega.{arith}
use lib.ListN.{length}
use lib.Dec.{eqb}
use borrow.Author.Tests.{le-leb, lt-leb, eq-eqb, ne_eqb}
use Rattle.position.specs.Bits.{has, with, moved}
use Rattle.position.specs.Kind.{moves_by_land, moves_in_phase2}
use Rattle.position.specs.Layout.{marks}
use Rattle.position.specs.Board.{Board, board}
use Rattle.position.specs.Change.{make, makes}
use Rattle.position.specs.Change.Change.{placed, marked}
use Rattle.position.specs.Stage as Stage
use Rattle.march.specs.Move.{path_length, may_move_now, moves_in, forbidden, move_changes}
use Rattle.clock.specs.Phase as Phase

module _ (path : List ℕ) where
  pub path_short : length path < 1 → path_length path ≡ false
  unfolding path_length
  path_short l = simp (lt-leb 1 (length path) l)

  pub path_long : 30 < length path → path_length path ≡ false
  unfolding path_length
  path_long l = simp (lt-leb (length path) 30 l, and-false)

  pub path_fits : 1 ≤ length path → length path ≤ 30 → path_length path ≡ true
  unfolding path_length
  path_fits l m = simp (le-leb 1 (length path) l, le-leb (length path) 30 m)

module _ (b : Board) where
  -- another stage, phase 0, and a later phase
  pub may_not : (b.desk.battle.stage ≡ Stage.quiet → ⊥) → may_move_now b ≡ false
  unfolding may_move_now
  may_not e = simp (ne_eqb b.desk.battle.stage Stage.quiet e)

  pub may_first : b.desk.battle.stage ≡ Stage.quiet → b.desk.clock.phase ≡ Phase.land → may_move_now b ≡ true
  unfolding may_move_now
  may_first e f = simp (eq-eqb b.desk.battle.stage Stage.quiet e, eq-eqb b.desk.clock.phase Phase.land f)

  pub may_later : b.desk.battle.stage ≡ Stage.quiet → (b.desk.clock.phase ≡ Phase.land → ⊥) → may_move_now b ≡ eqb b.desk.clock.phase Phase.mechanised
  unfolding may_move_now
  may_later e f = simp (eq-eqb b.desk.battle.stage Stage.quiet e, ne_eqb b.desk.clock.phase Phase.land f)

module _ (b : Board) (u : ℕ) where
  -- the type forbids it, or the mark is asked
  pub forbidden_type : moves_in b.desk.clock.phase (b.units.counter.kind u) ≡ false → forbidden b u ≡ true
  unfolding forbidden
  forbidden_type e = simp e

  pub forbidden_mark : moves_in b.desk.clock.phase (b.units.counter.kind u) ≡ true → forbidden b u ≡ has moved (b.units.state.marks u)
  unfolding forbidden
  forbidden_mark e = simp e

module _ (phase kind : ℕ) where
  pub moves_not : moves_by_land kind ≡ false → moves_in phase kind ≡ false
  unfolding moves_in
  moves_not e = simp e

  pub moves_second : moves_by_land kind ≡ true → phase ≡ Phase.mechanised → moves_in phase kind ≡ moves_in_phase2 kind
  unfolding moves_in
  moves_second e f = simp (e, eq-eqb phase Phase.mechanised f)

  pub moves_other : moves_by_land kind ≡ true → (phase ≡ Phase.mechanised → ⊥) → moves_in phase kind ≡ true
  unfolding moves_in
  moves_other e f = simp (e, ne_eqb phase Phase.mechanised f)

-- the moved mark fits a byte
pub moved_small : (m : ℕ) → m < 256 → with moved m < 256
unfolding with
moved_small m l = omega arith

-- both writes are the move's two changes: the marks are read before the unit is placed
pub both_made :
    (p q r : List ℕ) (u h m : ℕ) → m ≡ with moved (marks p u) → q ≡ make p (placed u h) → r ≡ make q (marked u m)
    → r ≡ makes p (move_changes (board p) u h)
unfolding move_changes makes
both_made p q r u h m e f g = g ∙ ap₂ (λ (l : List ℕ) (x : ℕ). make l (marked u x)) f e
