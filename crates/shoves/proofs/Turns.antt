-- Laws of one unit's turn in a sweep: whether it passes, and what is done to it then.
-- Assumes nothing.
use Prim.Native.Nat.{ℕ}
use mathlib.Core.Path.{◌≡◌, ap}
use mathlib.Core.Bool.{Bool, true, false, cond}
use mathlib.Core.List.{List, [], ◌∷◌}
use lib.Dec.{eqb}
use borrow.Author.Tests.{eq-eqb, ne_eqb}
use Rattle.position.specs.Board.{Board, board}
use Rattle.position.specs.Crowd.{owes_at}
use Rattle.position.specs.Change.{Change, make, makes}
use Rattle.position.specs.Change.Change.{placed, destroyed, assigned}
use Rattle.position.specs.Role as Role
use Rattle.shoves.specs.Shoves.{frees, goes_to, shifts}

-- the role is asked first, then the hex
module _ (b : Board) (h u : ℕ) where
  pub owes_not : (b.units.state.role u ≡ Role.owes → ⊥) → owes_at b h u ≡ false
  unfolding owes_at
  owes_not n = simp (ne_eqb (b.units.state.role u) Role.owes n)

  pub owes_where : b.units.state.role u ≡ Role.owes → owes_at b h u ≡ eqb (b.units.state.hex u) h
  unfolding owes_at
  owes_where e = simp (eq-eqb (b.units.state.role u) Role.owes e)

-- a unit that does not pass is left alone, to one that does it is done
module _ (p : List ℕ) (t : Bool) (xs : List Change) where
  pub left_alone : t ≡ false → p ≡ makes p (cond t xs [])
  unfolding makes
  left_alone e = simp e

  pub dealt_with : {q : List ℕ} → t ≡ true → q ≡ makes p xs → q ≡ makes p (cond t xs [])
  dealt_with e f = simp e f

-- only its kind is looked at, which stays
pub goes_same : (b c : Board) (x u : ℕ) → c.units.counter.kind ≡ b.units.counter.kind → goes_to c x u ≡ goes_to b x u
unfolding goes_to
goes_same b c x u e = ap (λ (k : ℕ → ℕ). cond (eqb (k u) 5) (destroyed u ∷ []) (placed u x ∷ [])) e

-- each is one change: a supply unit's, and that of a unit that goes; of one that is pushed; and of one that has no role any more
module _ (p : List ℕ) {q : List ℕ} (u : ℕ) where
  pub goes_supply : (x : ℕ) → (board p).units.counter.kind u ≡ 5 → q ≡ make p (destroyed u) → q ≡ makes p (goes_to (board p) x u)
  unfolding goes_to makes
  goes_supply x e f = simp (eq-eqb ((board p).units.counter.kind u) 5 e) f

  pub goes_there : (x : ℕ) → ((board p).units.counter.kind u ≡ 5 → ⊥) → q ≡ make p (placed u x) → q ≡ makes p (goes_to (board p) x u)
  unfolding goes_to makes
  goes_there x n f = simp (ne_eqb ((board p).units.counter.kind u) 5 n) f

  pub shifts_there : (z : ℕ) → q ≡ make p (placed u z) → q ≡ makes p (shifts z u)
  unfolding shifts makes
  shifts_there z e = e

  pub frees_it : q ≡ make p (assigned u Role.none) → q ≡ makes p (frees u)
  unfolding frees makes
  frees_it e = e
