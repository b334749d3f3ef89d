-- Laws of the functions of one step: home, into a hex, and the step as a whole.
-- Assumes nothing.
use Rattle.std.specs.Prelude.{Option, Some, None}
use Prim.Native.Nat.{ℕ, ◌+◌, ◌-◌, ◌/◌, ◌≤◌, ◌<◌}
use mathlib.Core.Path.{◌≡◌, sym, ◌∙◌, subst}
use mathlib.Core.List.{List}
use native.Mathlib.Omega.{arith}
use lib.ListN.{set}
use Rattle.grid.specs.Map.{neighbour_of}
use Rattle.grid.specs.declared.Spot.{Spot}
use Rattle.position.proofs.Sides.{off_at}
use Rattle.walk.specs.Chain.{mark}
use Rattle.walk.specs.Trail.{Leads, First, HomeOf, EnterOf, StepOf}
use Rattle.walk.specs.Trail.Step.{down, back}
use Rattle.walk.proofs.Steps.{at_at, TwoWay}

module _
    {next home : ℕ → ℕ → Option ℕ} (g : TwoWay next home) (w h : ℕ) (is : (a d : ℕ) → neighbour_of w h a d ≡ home a d)
    (l : List ℕ) (a c d : ℕ) (o : First next (mark l) 1 a c 0 d) (out : List ℕ)
  where
    -- a step that finds no hex to enter leaves
    pub steps_home :
        (r : Option (Spot × ℕ)) → 6 ≤ d → HomeOf w h a (mark l a / 8 - 1) r → out ≡ set l a (mark l a + 7) → StepOf w h next home l a c out r
    steps_home r p y e = go r y
      where
        none : First next (mark l) 1 a c 0 6
        none = subst (First next (mark l) 1 a c 0) (omega (arith, o.most)) o

        go : (r : Option (Spot × ℕ)) → HomeOf w h a (mark l a / 8 - 1) r → StepOf w h next home l a c out r
        go (Some (t, e')) y = (back none (sym (is a _) ∙ y.0) y.2 e, y.1)
        go None y = record { none = none; nowhere = sym (is a _) ∙ y; left = e }

    -- and one that finds one enters it
    pub steps_in : (r : Option (Spot × ℕ)) → d < 6 → EnterOf w h l a d out r → StepOf w h next home l a c out r
    steps_in (Some (t, e)) p y =
        let f = (o.found p).leads in
        let same = at_at (g.over a d _ f.there) (sym (is a d) ∙ y.0) in
        (down d o (subst (Leads next (mark l) 1 a d) same f) y.2 y.3, y.1)
    steps_in None p y = off_at (sym (is a d) ∙ y) (g.over a d _ (o.found p).leads.there)
