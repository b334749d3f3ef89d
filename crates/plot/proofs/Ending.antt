-- Laws of whether a chain ends anywhere at all.
-- Assumes nothing.
use Rattle.std.specs.Prelude.{Option, Some, None}
use Prim.Native.Nat.{ℕ, ◌+◌, ◌-◌, ◌≤◌, ◌<◌}
use mathlib.Core.Path.{◌≡◌, refl, sym, ap, ◌∙◌}
use mathlib.Core.Bool.{Bool, true, false, ◌&&◌, and-false}
use mathlib.Core.List.{List, ◌∷◌}
use native.Mathlib.Omega.{arith}
use borrow.Author.Tests.{eq-eqb}
use Rattle.position.specs.Tally.{any}
use Rattle.position.proofs.Tallies.{not_both, same_or, any_some, any_true, any_false, any_never}
use Rattle.chains.specs.Chain.{yields, has_rest}
use Rattle.chains.specs.Serves.{ends_in}
use Rattle.plot.specs.Plot.{places, stand_in, next_in}
use Rattle.plot.proofs.Plots.{next_below}
use Rattle.plot.proofs.Ends.{up_to, rest_at, rest_way, end_via, way_off, way_at, way_all, rest_yes, rest_all_lem}
use Rattle.plot.proofs.Ends.{via_off, via_at, ends_rest, ends_via, ends_never}

-- a chain from the stack in place h on ends in some place
abbrev pub ends : List ℕ → List ℕ → ℕ → ℕ → Bool
ends l used left h = any (ends_in (next_in l) (stand_in l) used left h) places

module _ (l used : List ℕ) (left h : ℕ) (p : 1 ≤ left) where
  -- a stack with a vacant place beside it ends one
  beside : (d : ℕ) (b : Option ℕ) → d < 6 → next_in l h d ≡ b → rest_way (next_in l) (stand_in l) (h ∷ used) h d ≡ true
      → has_rest (next_in l) (stand_in l) (h ∷ used) h ≡ true → ends l used left h ≡ true
  unfolding up_to
  beside d None b e r q = not_both _ r (way_off (next_in l) (stand_in l) (h ∷ used) h d e)
  beside d (Some z) b e r q =
      let f = sym (way_at (next_in l) (stand_in l) (h ∷ used) h d z e) ∙ r in
      any_true (ends_in (next_in l) (stand_in l) used left h) places z (next_below l h d z e)
      (sym (ends_rest (next_in l) (stand_in l) used left h z p q)
      ∙ sym (rest_all_lem (next_in l) (stand_in l) (h ∷ used) h z)
      ∙ any_true (λ k. rest_at (next_in l) (stand_in l) (h ∷ used) h k z) 6 d b
      (sym (rest_yes (next_in l) (stand_in l) (h ∷ used) h d z e f z) ∙ eq-eqb z z refl))

  pub can_rest : has_rest (next_in l) (stand_in l) (h ∷ used) h ≡ true → ends l used left h ≡ true
  can_rest q =
      let k = any_some (rest_way (next_in l) (stand_in l) (h ∷ used) h) 6 (sym (way_all (next_in l) (stand_in l) (h ∷ used) h) ∙ q) in
      beside k.at (next_in l h k.at) k.below refl k.passes q

  -- the last stack ends none without
  pub can_none : left < 2 → has_rest (next_in l) (stand_in l) (h ∷ used) h ≡ false → ends l used left h ≡ false
  can_none b q = any_never _ places (λ y m. ends_never (next_in l) (stand_in l) used left h y p b q)

  -- a stack that it pushes goes on with one
  pub can_via :
      (d z : ℕ) → d < 6 → next_in l h d ≡ Some z → has_rest (next_in l) (stand_in l) (h ∷ used) h ≡ false
      → yields (stand_in l) (h ∷ used) z ≡ true → (trail : List ℕ) → trail ≡ h ∷ used → ends l trail (left - 1) z ≡ true
      → ends l used left h ≡ true
  unfolding up_to
  can_via d z b e q r trail f g =
      let k = any_some (ends_in (next_in l) (stand_in l) (h ∷ used) (left - 1) z) places
      (ap (λ (us : List ℕ). ends l us (left - 1) z) (sym f) ∙ g) in
      any_true (ends_in (next_in l) (stand_in l) used left h) places k.at k.below
      (sym (ends_via (next_in l) (stand_in l) used left h k.at p q)
      ∙ any_true (λ n. end_via (next_in l) (stand_in l) (h ∷ used) (left - 1) h n k.at) 6 d b
      (via_at (next_in l) (stand_in l) (h ∷ used) h d (left - 1) z e k.at
      ∙ ap (λ (v : Bool). v && ends_in (next_in l) (stand_in l) (h ∷ used) (left - 1) z k.at) r
      ∙ k.passes))

-- no chain ends by a stack that the one in place h pushes in one of the directions before d
pub record Endless (l used : List ℕ) (left h d : ℕ) : Type 0 where
  pub none : (n y : ℕ) → n < d → y < places → end_via (next_in l) (stand_in l) (h ∷ used) (left - 1) h n y ≡ false

module _ {l used : List ℕ} {left h : ℕ} where
  pub endless_first : Endless l used left h 0
  endless_first = record { none = λ n y b m. absurd (omega arith) }

  module _ {d : ℕ} (u : Endless l used left h d) where
    endless_more :
        ((y : ℕ) → y < places → end_via (next_in l) (stand_in l) (h ∷ used) (left - 1) h d y ≡ false) → Endless l used left h (d + 1)
    endless_more f = record {
      none = λ n y c m.
          same_or n d
          (λ e. ap (λ (k : ℕ). end_via (next_in l) (stand_in l) (h ∷ used) (left - 1) h k y) e ∙ f y m)
          (λ e. u.none n y (omega arith) m);
    }

    -- nothing is in direction d; or a stack that cannot be pushed; or one with which no chain ends
    pub endless_off : next_in l h d ≡ None → Endless l used left h (d + 1)
    endless_off e = endless_more (λ y m. via_off (next_in l) (stand_in l) (h ∷ used) h d (left - 1) e y)

    pub endless_held : (z : ℕ) → next_in l h d ≡ Some z → yields (stand_in l) (h ∷ used) z ≡ false → Endless l used left h (d + 1)
    endless_held z e r =
        endless_more
        (λ y m.
        via_at (next_in l) (stand_in l) (h ∷ used) h d (left - 1) z e y
        ∙ ap (λ (v : Bool). v && ends_in (next_in l) (stand_in l) (h ∷ used) (left - 1) z y) r)

    pub endless_via :
        (z : ℕ) → next_in l h d ≡ Some z → (trail : List ℕ) → trail ≡ h ∷ used → ends l trail (left - 1) z ≡ false
        → Endless l used left h (d + 1)
    endless_via z e trail f g =
        endless_more
        (λ y m.
        via_at (next_in l) (stand_in l) (h ∷ used) h d (left - 1) z e y
        ∙ ap (λ (v : Bool). yields (stand_in l) (h ∷ used) z && v)
        (any_false (ends_in (next_in l) (stand_in l) (h ∷ used) (left - 1) z) places y
        (ap (λ (us : List ℕ). ends l us (left - 1) z) (sym f) ∙ g) m)
        ∙ and-false (yields (stand_in l) (h ∷ used) z))

    pub endless : 1 ≤ left → 6 ≤ d → has_rest (next_in l) (stand_in l) (h ∷ used) h ≡ false → ends l used left h ≡ false
    unfolding up_to
    endless p b q =
        any_never _ places
        (λ y m.
        sym (ends_via (next_in l) (stand_in l) used left h y p q)
        ∙ any_never (λ n. end_via (next_in l) (stand_in l) (h ∷ used) (left - 1) h n y) 6 (λ n c. u.none n y (omega arith) m))
