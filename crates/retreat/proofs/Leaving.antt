-- Laws of how a group leaves: one unit after another, each as it was when the call began, and the route before them.
-- Assumes nothing.
use Prim.Native.Nat.{◌-◌, ◌<◌, suc, zero, ℕ}
use mathlib.Core.Bool.{◌&&◌, cond}
use mathlib.Core.List.{List, [], ◌++◌, ◌∷◌, map}
use mathlib.Core.Path.{◌∙◌, ◌≡◌, ap, ap₂, refl}
use native.Mathlib.Omega.{arith}
use borrow.Author.Tests.{eq-eqb, ne_eqb}
use lib.Dec.{eqb}
use lib.ListN.{get_or, length}
use Rattle.position.proofs.Changes.{board_make}
use Rattle.position.proofs.Tallies.{either}
use Rattle.position.specs.Board.{Board, Units, board, nowhere}
use Rattle.position.specs.Change.{Change, make, makes}
use Rattle.position.specs.Change.Change.{assigned, destroyed, placed, routed}
use Rattle.position.specs.Crowd.{owes_at, routes}
use Rattle.position.specs.Effect.{change, changes}
use Rattle.position.specs.Shape.{Shaped}
use Rattle.position.specs.Role as Role
use Rattle.acceptance.proofs.Fates.{assigned_else, destroyed_else, same_trans}
use Rattle.field.specs.Listed.{sieve}
use Rattle.shoves.proofs.Sweeps.{Own, placed_else}
use Rattle.shoves.specs.Group.{gather, group}
use Rattle.shoves.specs.Shoves.{marches}
use Rattle.retreat.specs.Retreat.{doom_changes, end_of, goes_off, leaves, note_of, push_changes, retreat_changes}

-- a number of a list, whatever stands for none
pub at_any : (xs : List ℕ) (i d e : ℕ) → i < length xs → get_or xs i d ≡ get_or xs i e
at_any [] i d e l = absurd (omega arith)
at_any (x ∷ xs) zero d e l = refl
at_any (x ∷ xs) (suc i) d e l = at_any xs i d e (omega arith)

-- the changes of a unit that is lost, and of a group, one unit after another
abbrev pub falls : ℕ → List Change
falls u = destroyed u ∷ []

pub gather_falls : (us : List ℕ) → gather falls us ≡ map destroyed us
unfolding gather
gather_falls [] = refl
gather_falls (u ∷ us) = ap (λ (l : List Change). destroyed u ∷ l) (gather_falls us)

pub gather_leaves : (b : Board) (end : ℕ) (us : List ℕ) → gather (leaves b end) us ≡ goes_off b end us
unfolding gather goes_off
gather_leaves b end [] = refl
gather_leaves b end (u ∷ us) = ap (λ (l : List Change). leaves b end u ++ l) (gather_leaves b end us)

pub own_falls : Own falls
unfolding changes
own_falls = record { off = λ b u w n. destroyed_else b u w n }

pub own_leaves : (c : Board) (end : ℕ) → Own (leaves c end)
unfolding changes leaves
own_leaves c end =
    record {
      off =
          λ b u w n.
          either (eqb (c.units.counter.kind u) 5)
          (λ e. rw e (destroyed_else b u w n))
          (λ e. rw e (same_trans (placed_else b u end w n) (assigned_else (change b (placed u end)) u 0 w n)));
    }

pub leaves_same : (b c : Board) (end u : ℕ) → c.units.counter.kind ≡ b.units.counter.kind → leaves c end u ≡ leaves b end u
unfolding leaves
leaves_same b c end u e =
    ap (λ (k : ℕ → ℕ). cond (eqb (k u) 5) (destroyed u ∷ []) (placed u end ∷ assigned u Role.none ∷ [])) e

-- a supply unit, and one that goes
module _ (p : List ℕ) (end u : ℕ) where
  pub leave_supply : {q : List ℕ} → (board p).units.counter.kind u ≡ 5 → q ≡ make p (destroyed u) → q ≡ makes p (leaves (board p) end u)
  unfolding leaves makes
  leave_supply e f = simp (eq-eqb ((board p).units.counter.kind u) 5 e) f

  pub leave_walks :
      {q r : List ℕ} → ((board p).units.counter.kind u ≡ 5 → ⊥) → q ≡ make p (placed u end) → r ≡ make q (assigned u Role.none)
      → r ≡ makes p (leaves (board p) end u)
  unfolding leaves makes
  leave_walks n e f = simp (ne_eqb ((board p).units.counter.kind u) 5 n) (f ∙ ap (λ (l : List ℕ). make l (assigned u Role.none)) e)

pub falls_made : (p : List ℕ) (u : ℕ) {q : List ℕ} → q ≡ make p (destroyed u) → q ≡ makes p (falls u)
unfolding makes
falls_made p u e = e

-- a route written touches no unit
module _ {p q : List ℕ} (s : Shaped p) (r a x y z : ℕ) (e : q ≡ make p (routed r a x y z)) where
  routed_board : board q ≡ change (board p) (routed r a x y z)
  routed_board = ap board e ∙ board_make s (routed r a x y z)

  routed_units : (board q).units ≡ (board p).units
  unfolding change
  routed_units = ap (λ (b : Board). b.units) routed_board

  routed_group : (h : ℕ) → group (board q) h ≡ group (board p) h
  unfolding group owes_at
  routed_group h = ap (λ (t : Units). sieve (λ u. eqb (t.state.role u) Role.owes && eqb (t.state.hex u) h) t.count) routed_units

  leaves_routed : (end u : ℕ) → leaves (board q) end u ≡ leaves (board p) end u
  leaves_routed end u = leaves_same (board p) (board q) end u (ap (λ (t : Units). t.counter.kind) routed_units)

  goes_routed : (end : ℕ) (us : List ℕ) → goes_off (board q) end us ≡ goes_off (board p) end us
  unfolding goes_off
  goes_routed end [] = refl
  goes_routed end (u ∷ us) = ap₂ (λ (k l : List Change). k ++ l) (leaves_routed end u) (goes_routed end us)

  pub routed_goes :
      {m : List ℕ} (h end : ℕ) → m ≡ makes q (goes_off (board q) end (group (board q) h))
      → m ≡ makes p (routed r a x y z ∷ goes_off (board p) end (group (board p) h))
  unfolding makes
  routed_goes h end f =
      f
      ∙ ap (λ (us : List ℕ). makes q (goes_off (board q) end us)) (routed_group h)
      ∙ ap (makes q) (goes_routed end (group (board p) h))
      ∙ ap (λ (l : List ℕ). makes l (goes_off (board p) end (group (board p) h))) e

  pub routed_falls :
      {m : List ℕ} (h : ℕ) → m ≡ makes q (map destroyed (group (board q) h))
      → m ≡ makes p (routed r a x y z ∷ map destroyed (group (board p) h))
  unfolding makes
  routed_falls h f =
      f
      ∙ ap (λ (us : List ℕ). makes q (map destroyed us)) (routed_group h)
      ∙ ap (λ (l : List ℕ). makes l (map destroyed (group (board p) h))) e

-- the route that is written, of the numbers as they were read
pub noted :
    (p : List ℕ) {q : List ℕ} (h : ℕ) (route : List ℕ) {r x y z : ℕ} → r ≡ routes (board p)
    → x ≡ get_or route 0 nowhere → y ≡ get_or route 1 nowhere → z ≡ get_or route 2 nowhere
    → q ≡ make p (routed r h x y z) → q ≡ make p (note_of (board p) h route)
unfolding note_of
noted p h route {r} {x} {y} {z} er ex ey ez e =
    let after : ℕ → ℕ → ℕ → ℕ → List ℕ = λ r x y z. make p (routed r h x y z) in
    e
    ∙ ap₂ (λ (k l : ℕ). after k l y z) er ex
    ∙ ap₂ (λ (k l : ℕ). after (routes (board p)) (get_or route 0 nowhere) k l) ey ez

-- the route and then the group
pub gone_off :
    {p q m : List ℕ} → Shaped p → (h : ℕ) (route : List ℕ) {end : ℕ} → end ≡ end_of (board p) route
    → q ≡ make p (note_of (board p) h route) → m ≡ makes q (goes_off (board q) end (group (board q) h))
    → m ≡ makes p (retreat_changes (board p) h route)
unfolding retreat_changes note_of
gone_off {p} s h route {end} ee e f =
    let b = board p in
    let x = get_or route 0 nowhere in
    let y = get_or route 1 nowhere in
    let z = get_or route 2 nowhere in
    routed_goes s (routes b) h x y z e h end f
    ∙ ap (λ (k : ℕ). makes p (routed (routes b) h x y z ∷ goes_off b k (group b h))) ee

-- with pushes, step by step
pub pushed_off :
    {p q m : List ℕ} → Shaped p → (h : ℕ) (route pushes : List ℕ) → q ≡ make p (note_of (board p) h route)
    → m ≡ makes q (marches (board q) h route pushes) → m ≡ makes p (push_changes (board p) h route pushes)
unfolding push_changes makes
pushed_off {p} {q} s h route pushes e f =
    let n = note_of (board p) h route in
    f
    ∙ ap (λ (b : Board). makes q (marches b h route pushes)) (ap board e ∙ board_make s n)
    ∙ ap (λ (l : List ℕ). makes l (marches (change (board p) n) h route pushes)) e

-- or into the box
pub fallen :
    {p q m : List ℕ} → Shaped p → (h : ℕ) (route : List ℕ) → q ≡ make p (note_of (board p) h route)
    → m ≡ makes q (map destroyed (group (board q) h)) → m ≡ makes p (doom_changes (board p) h route)
unfolding doom_changes note_of
fallen {p} s h route e f =
    routed_falls s (routes (board p)) h (get_or route 0 nowhere) (get_or route 1 nowhere) (get_or route 2 nowhere) e h f

-- where the route ends, of the numbers as they were read
pub ends :
    (b : Board) (route : List ℕ) {n end : ℕ} → n ≡ b.desk.battle.owed → end ≡ get_or route (n - 1) nowhere → end ≡ end_of b route
unfolding end_of
ends b route en e = e ∙ ap (λ (n : ℕ). get_or route (n - 1) nowhere) en
