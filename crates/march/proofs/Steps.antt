-- Laws of one step: what it costs, the working allowance, and the step's tests by cases.
-- Assumes nothing.
use Rattle.std.specs.Prelude.{Some}
use Prim.Native.Nat.{ℕ, ◌≤◌, ◌<◌}
use mathlib.Core.Path.{◌≡◌, sym, ap₂, ◌∙◌}
use mathlib.Core.Bool.{Bool, true, false, not}
use native.Mathlib.Omega.{arith}
use borrow.Author.Tests.{lt-ltb, le-ltb, eq-eqb, ne_eqb, not-true}
use Rattle.position.specs.Tally.{any}
use Rattle.position.specs.Bits.{has, supplied}
use Rattle.position.specs.Layout.{river, major_river}
use Rattle.position.specs.Board.{Board, force_of}
use Rattle.position.specs.Ground.{river_side, major_river_side, next, bearing, joined, standable}
use Rattle.position.specs.Laid.{Read}
use Rattle.position.proofs.Tallies.{any_false, any_never}
use Rattle.position.proofs.Sides.{reaches, is-at}
use Rattle.position.proofs.Bearings.{bearing_joined, bearing_reaches}
use Rattle.field.specs.Scene.{Scene, scene}
use Rattle.field.specs.Zone.{stands_on, vacant, neutral_on, holds_neutral, enemy_zone}
use Rattle.field.specs.Working.{working}
use Rattle.field.proofs.Workings.{working_most}
use Rattle.march.specs.Step.{side_cost}
use Rattle.march.specs.Move.{Leg, allowed, leaves_zone, no_step}

-- what a side costs: a river, a major river, and any other
module _ (b : Board) (s : ℕ) where
  pub cost_river : s ≡ river_side → side_cost b s ≡ b.chart.cost river
  unfolding side_cost
  cost_river e = simp (eq-eqb s river_side e)

  pub cost_major : s ≡ major_river_side → side_cost b s ≡ b.chart.cost major_river
  unfolding side_cost
  cost_major e = simp (ne_eqb s river_side (λ f. omega arith), eq-eqb s major_river_side e)

  pub cost_none : (s ≡ river_side → ⊥) → (s ≡ major_river_side → ⊥) → side_cost b s ≡ 0
  unfolding side_cost
  cost_none e f = simp (ne_eqb s river_side e, ne_eqb s major_river_side f)

-- the working allowance, read by the mark and the allowance
pub allowed_read :
    (b : Board) (u : ℕ) {s : Bool} {n r : ℕ}
    → s ≡ has supplied (b.units.state.marks u) → Read (b.units.counter.allowance u) 256 n → Read (working b u s n) 65536 r
    → Read (allowed b u) 256 r
unfolding allowed
allowed_read b u {s} {n} e f w =
    record { is = w.is ∙ ap₂ (working b u) e f.is; small = omega (arith, working_most b u s n) }

-- the first step, and a later one
module _ (b : Board) (u : ℕ) (l : Leg) (k : ℕ) where
  pub leaves_first : k ≤ 1 → leaves_zone b u l k ≡ false
  unfolding leaves_zone
  leaves_first m = simp (le-ltb 1 k m)

  pub leaves_later : 1 < k → leaves_zone b u l k ≡ enemy_zone (scene b) (force_of b u) l.at
  unfolding leaves_zone
  leaves_later m = simp (lt-ltb 1 k m)

-- a step in the direction of the hex, and where there is none
module _ (b : Board) (h x : ℕ) where
  turned : bearing b.map h x < 6 → joined b.map h x ≡ true
  turned l = sym (bearing_joined b.map h x) ∙ lt-ltb (bearing b.map h x) 6 l

  pub turned_next : bearing b.map h x < 6 → next b.map h (bearing b.map h x) ≡ Some x
  unfolding reaches
  turned_next l = is-at (next b.map h (bearing b.map h x)) x (bearing_reaches b.map h x (turned l))

  pub no_step_there : bearing b.map h x < 6 → no_step b h x ≡ not (standable b x)
  unfolding no_step
  no_step_there l = simp (turned l)

  pub no_step_apart : 6 ≤ bearing b.map h x → no_step b h x ≡ true
  unfolding no_step
  no_step_apart l = simp (sym (bearing_joined b.map h x) ∙ le-ltb (bearing b.map h x) 6 l)

-- nobody is neutral where nobody stands
pub no_neutral : (s : Scene) (f h : ℕ) → vacant s h ≡ true → holds_neutral s f h ≡ false
unfolding vacant holds_neutral neutral_on
no_neutral s f h e =
    any_never (neutral_on s f h) s.count
    (λ u l. simp (any_false (stands_on s h) s.count u (not-true (any (stands_on s h) s.count) e) l))
