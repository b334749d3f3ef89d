-- What is on the desk does not matter to a march: with another desk every unit is brought to the same hex.
-- Assumes nothing.
use Prim.Native.Nat.{ℕ}
use mathlib.Core.Path.{◌≡◌, refl, ap, fun_ext, ◌∙◌}
use mathlib.Core.List.{List, [], ◌∷◌}
use lib.Dec.{ltb}
use Rattle.position.specs.Board.{Board, Desk}
use Rattle.position.specs.Crowd.{owes_at}
use Rattle.position.specs.Change.{Change}
use Rattle.position.specs.Change.Change.{assigned, destroyed, marked, placed, routed, staged, timed, unrouted}
use Rattle.position.specs.Effect.{change, changes, reroute, unfilled, with_clock, with_desk, with_routes, with_stage}
use Rattle.position.proofs.Tallies.{either}
use Rattle.field.specs.Scene.{scene}
use Rattle.field.specs.Zone.{stands_on, vacant}
use Rattle.shoves.specs.Group.{gather, group, stack}
use Rattle.shoves.specs.Shoves.{clears, goes_to, group_to, stack_to}
use Rattle.retreat.specs.Retreat.{note_of}
use Rattle.retreat.specs.Units.{brought_to, carried}

-- changes of a board with another desk: the same board as without, but for its desk
change_desk : (x : Change) (b : Board) (d : Desk) → (e : Desk) × (change (with_desk b d) x ≡ with_desk (change b x) e)
unfolding change
change_desk (placed u h) b d = (d, either (ltb h b.map.hexes) (λ e. simp e) (λ e. simp e))
change_desk (destroyed u) b d = (d, refl)
change_desk (marked u m) b d = (d, refl)
change_desk (assigned u r) b d = (d, refl)
change_desk (timed t f ph) b d = (with_clock d t f ph, refl)
change_desk (staged s n x) b d = (with_stage d s n x, refl)
change_desk (routed r w x y z) b d = (with_routes d (reroute d.route r w x y z), refl)
change_desk unrouted b d = (with_routes d unfilled, refl)

changes_desk : (xs : List Change) (b : Board) (d : Desk) → (e : Desk) × (changes (with_desk b d) xs ≡ with_desk (changes b xs) e)
unfolding changes
changes_desk [] b d = (d, refl)
changes_desk (x ∷ xs) b d =
    let i = change_desk x b d in
    let j = changes_desk xs (change b x) i.0 in
    (j.0, ap (λ (c : Board). changes c xs) i.1 ∙ j.1)

-- who stands where, and who goes
module _ (b : Board) (d : Desk) where
  desk_vacant : (h : ℕ) → vacant (scene (with_desk b d)) h ≡ vacant (scene b) h
  unfolding vacant stands_on
  desk_vacant h = refl

  desk_stack : (h z : ℕ) → stack_to (with_desk b d) h z ≡ stack_to b h z
  unfolding stack_to stack stands_on
  desk_stack h z = refl

  desk_group : (a x : ℕ) → group_to (with_desk b d) a x ≡ group_to b a x
  unfolding group_to group owes_at goes_to
  desk_group a x = ap (λ (g : ℕ → List Change). gather g (group b a)) (fun_ext (λ u. refl))

-- a hex is cleared alike, and carries alike
module _ (b : Board) (d : Desk) where
  clears_desk : (ps : List ℕ) (h : ℕ) → clears (with_desk b d) h ps ≡ clears b h ps
  unfolding clears
  clears_desk [] h = refl
  clears_desk (z ∷ ps) h =
      let i = changes_desk (clears b z ps).done b d in
      rw (desk_vacant b d h, clears_desk ps z, i.1, desk_stack (changes b (clears b z ps).done) i.0 h z) refl

  carried_desk : (ps : List ℕ) (x y : ℕ) → carried (with_desk b d) x ps y ≡ carried b x ps y
  unfolding carried
  carried_desk [] x y = refl
  carried_desk (z ∷ ps) x y = rw (desk_vacant b d x, carried_desk ps z y) refl

brought_desk :
    (route : List ℕ) (b : Board) (d : Desk) (a : ℕ) (ps : List ℕ) (y : ℕ)
    → brought_to (with_desk b d) a route ps y ≡ brought_to b a route ps y
unfolding brought_to
brought_desk [] b d a ps y = refl
brought_desk (x ∷ route) b d a ps y =
    let r = clears b x ps in
    let c = changes b r.done in
    let i = changes_desk r.done b d in
    let xs = group_to c a x in
    let j = changes_desk xs c i.0 in
    rw (clears_desk b d ps x, carried_desk b d ps x y, i.1, desk_group c i.0 a x, j.1)
    (brought_desk route (changes c xs) j.0 x r.left (carried b x ps y))

-- so the note of a route does not matter
pub brought_noted :
    (b : Board) (h : ℕ) (noted route ps : List ℕ) (y : ℕ) → brought_to (change b (note_of b h noted)) h route ps y ≡ brought_to b h route ps y
unfolding change note_of
brought_noted b h noted route ps y = brought_desk route b _ h ps y

-- and without pushes everybody stays
pub brought_none : (route : List ℕ) (b : Board) (a y : ℕ) → brought_to b a route [] y ≡ y
unfolding brought_to clears carried
brought_none [] b a y = refl
brought_none (x ∷ route) b a y = brought_none route _ x y
