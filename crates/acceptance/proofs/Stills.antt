-- Boards that differ in marks alone, and nothing seen is hidden: units turned over and marked.
-- Assumes nothing.
use Prim.Native.Nat.{ℕ, ◌≤◌, ◌<◌}
use mathlib.Core.Path.{◌≡◌, refl, sym, ap, subst, ◌∙◌}
use mathlib.Core.Bool.{true}
use mathlib.Core.List.{List, [], ◌∷◌}
use native.Mathlib.Omega.{arith}
use Rattle.position.specs.Bits.{marks_end, has, with, tried, faced}
use Rattle.position.specs.Board.{Board}
use Rattle.position.specs.Change.{Change}
use Rattle.position.specs.Change.Change.{marked}
use Rattle.position.specs.Effect.{with_shown, change, changes, turned_up}
use Rattle.position.proofs.BitLaws.{with_within}
use Rattle.position.proofs.BitLaws.UnitMark.{is-tried}
use Rattle.position.proofs.Effects.{upd_there, upd_case, faced_face, turned_face}
use Rattle.acceptance.specs.Accepted.{Lawful}
use Rattle.acceptance.proofs.Carries.{Fixed, fixed_units, fixed_desk, fixed_change}
use Rattle.acceptance.proofs.Lawfuls.{Suited, suited_same, lawful_still}

-- what never changes, after one change and another
pub fixed_refl : (b : Board) → Fixed b b
fixed_refl b = fixed_desk b b.desk refl refl

pub fixed_trans : {b c d : Board} → Fixed b c → Fixed c d → Fixed b d
fixed_trans f g =
    record {
      chart = g.chart ∙ f.chart;
      results = g.results ∙ f.results;
      map = g.map ∙ f.map;
      count = g.count ∙ f.count;
      counter = g.counter ∙ f.counter;
      last_turn = g.last_turn ∙ f.last_turn;
      players = g.players ∙ f.players;
    }

pub fixed_changes : (xs : List Change) (b : Board) → Fixed b (changes b xs)
unfolding changes
fixed_changes [] b = fixed_refl b
fixed_changes (x ∷ xs) b = fixed_trans (fixed_change b x) (fixed_changes xs (change b x))

-- nobody moves, owes or may advance otherwise, the desk is the same, and nothing that was seen is hidden
pub record Still (b c : Board) : Type 0 where
  pub fixed : Fixed b c
  pub hex : c.units.state.hex ≡ b.units.state.hex
  pub role : c.units.state.role ≡ b.units.state.role
  pub desk : c.desk ≡ b.desk
  pub face : (w : ℕ) → has tried (b.units.state.marks w) ≡ true → has tried (c.units.state.marks w) ≡ true

pub still_refl : (b : Board) → Still b b
still_refl b = record { fixed = fixed_refl b; hex = refl; role = refl; desk = refl; face = λ w e. e }

pub still_trans : {b c d : Board} → Still b c → Still c d → Still b d
still_trans s t =
    record {
      fixed = fixed_trans s.fixed t.fixed;
      hex = t.hex ∙ s.hex;
      role = t.role ∙ s.role;
      desk = t.desk ∙ s.desk;
      face = λ w e. t.face w (s.face w e);
    }

-- a unit turned over
with_tried_bare : (m : ℕ) → m ≤ tried → with tried m ≤ tried
unfolding with
with_tried_bare m l = omega arith

module _ (b : Board) (u x : ℕ) where
  turned_case :
      (P : ℕ → Type 0) (w : ℕ) → (w ≡ u → P (with tried (b.units.state.marks u))) → P (b.units.state.marks w)
      → P ((turned_up b u x).units.state.marks w)
  unfolding turned_up
  turned_case P w f y = upd_case P b.units.count b.units.state.marks u (with tried (b.units.state.marks u)) w (λ _ e. f e) y

  pub turned_still : Still b (turned_up b u x)
  unfolding turned_up
  turned_still =
      record {
        fixed = fixed_units b (with_shown b.units u x) refl refl;
        hex = refl;
        role = refl;
        desk = refl;
        face = λ w t. turned_case (λ m. has tried m ≡ true) w (λ e. turned_face (b.units.state.marks u)) t;
      }

  pub turned_tried : u < b.units.count → has tried ((turned_up b u x).units.state.marks u) ≡ true
  unfolding turned_up
  turned_tried l =
      ap (has tried) (upd_there b.units.count b.units.state.marks u (with tried (b.units.state.marks u)) l) ∙ turned_face (b.units.state.marks u)

  turned_suited : (w : ℕ) → Suited b b w → Suited b (turned_up b u x) w
  turned_suited w s =
      record {
        marks =
            turned_case (λ m. m < marks_end) w
            (λ e. with_within is-tried (b.units.state.marks u) (subst (λ (k : ℕ). b.units.state.marks k < marks_end) e s.marks))
            s.marks;
        face = turned_still.face w;
        destroyed =
            λ z.
            turned_case (λ m. m ≤ tried) w
            (λ e. with_tried_bare (b.units.state.marks u) (subst (λ (k : ℕ). b.units.state.marks k ≤ tried) e (s.destroyed z)))
            (s.destroyed z);
      }

  pub lawful_turned : Lawful b → Lawful (turned_up b u x)
  unfolding turned_up
  lawful_turned l =
      lawful_still turned_still.fixed refl refl refl refl (λ w h. turned_suited w (suited_same l w h)) l.clock l

-- other marks for a unit
pub marked_still : (b : Board) (u m : ℕ) → Still b (change b (marked u m))
unfolding change
marked_still b u m =
    record {
      fixed = fixed_change b (marked u m);
      hex = refl;
      role = refl;
      desk = refl;
      face =
          λ w t.
          upd_case (λ (k : ℕ). has tried k ≡ true) b.units.count b.units.state.marks u (faced (b.units.state.marks u) m) w
          (λ _ e. faced_face (b.units.state.marks u) m ∙ ap (λ (k : ℕ). has tried (b.units.state.marks k)) (sym e) ∙ t)
          t;
    }
