-- Laws of an advance: each test by its cases, and its two writes as its changes.
-- Assumes nothing.
use Prim.Native.Nat.{◌+◌, ℕ}
use mathlib.Core.Bool.{false, not, true}
use mathlib.Core.List.{List}
use mathlib.Core.Path.{◌∙◌, ◌≡◌, ap, refl}
use borrow.Author.Tests.{eq-eqb, ne_eqb}
use Rattle.position.specs.Layout.{route_hexes}
use Rattle.position.specs.Board.{Board, board}
use Rattle.position.specs.Change.{make, makes}
use Rattle.position.specs.Change.Change.{assigned, placed}
use Rattle.position.specs.Ground.{joined}
use Rattle.position.specs.Tally.{any}
use Rattle.position.specs.Role as Role
use Rattle.aftermath.specs.Advance.{advance_changes, clear_to, close_changes, held_at, may_advance, can_follow}
use Rattle.aftermath.specs.Stage.{reassigned}

module _ (b : Board) (u : ℕ) where
  pub advance_not : (b.units.state.role u ≡ Role.advances → ⊥) → may_advance b u ≡ false
  unfolding may_advance
  advance_not n = ne_eqb (b.units.state.role u) Role.advances n

  pub advance_may : b.units.state.role u ≡ Role.advances → may_advance b u ≡ true
  unfolding may_advance
  advance_may e = eq-eqb (b.units.state.role u) Role.advances e

  module _ (hex r : ℕ) where
    pub clear_other : (j : ℕ) → (b.desk.route r j ≡ hex → ⊥) → clear_to b u hex r j ≡ false
    unfolding clear_to
    clear_other j n = simp (ne_eqb (b.desk.route r j) hex n)

    pub clear_there : (j : ℕ) → b.desk.route r j ≡ hex → clear_to b u hex r j ≡ not (any (held_at b u r) (j + 1))
    unfolding clear_to
    clear_there j e = simp (eq-eqb (b.desk.route r j) hex e)

    pub follow_apart : joined b.map (b.units.state.hex u) (b.desk.route r 0) ≡ false → can_follow b u hex r ≡ false
    unfolding can_follow
    follow_apart e = simp e

    pub follow_beside :
        joined b.map (b.units.state.hex u) (b.desk.route r 0) ≡ true → can_follow b u hex r ≡ any (clear_to b u hex r) route_hexes
    unfolding can_follow
    follow_beside e = simp e

-- both writes are the advance's two changes
pub both_made :
    (p : List ℕ) {q r : List ℕ} (u hex : ℕ) → q ≡ make p (placed u hex) → r ≡ make q (assigned u Role.none) → r ≡ makes p (advance_changes (board p) u hex)
unfolding advance_changes makes
both_made p u hex e f = f ∙ ap (λ (l : List ℕ). make l (assigned u Role.none)) e

-- who may advance has role 2
pub closed_is : (b : Board) → reassigned b Role.advances Role.none ≡ close_changes b
unfolding reassigned close_changes may_advance
closed_is b = refl
