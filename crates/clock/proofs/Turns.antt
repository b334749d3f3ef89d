-- Laws of the clock: the next one by its three cases, and what is not the last.
-- Assumes nothing.
use Prim.Native.Nat.{ℕ, ◌+◌, ◌≤◌, ◌<◌}
use mathlib.Core.Path.{◌≡◌, refl}
use mathlib.Core.Bool.{Bool, true, false, cond}
use lib.Dec.{eqb}
use native.Mathlib.Omega.{arith}
use native.Mathlib.Decide.{ℕ_discrete}
use borrow.Author.Tests.{eq-eqb, eqb-false, eqb-true}
use Rattle.clock.specs.declared.Clock.{Clock}
use Rattle.clock.specs.Phase as Phase
use Rattle.clock.specs.Clock.{last_force, Timely, phases_left, next_clock, is_last}

module _ (P : Clock → Type 0) (c : Clock) where
  -- the next turn, the next force, the next phase
  abbrev in_turn : Clock
  in_turn = record { turn = c.turn + 1; force = 0; phase = Phase.first }

  abbrev in_force : Clock
  in_force = record { turn = c.turn; force = c.force + 1; phase = Phase.first }

  abbrev in_phase : Clock
  in_phase = record { turn = c.turn; force = c.force; phase = c.phase + 1 }

  module _
      (turn : c.phase ≡ Phase.last → c.force ≡ last_force → P in_turn)
      (force : c.phase ≡ Phase.last → (c.force ≡ last_force → ⊥) → P in_force)
      (phase : (c.phase ≡ Phase.last → ⊥) → P in_phase)
    where
      cases : (s t : Bool) → eqb c.phase Phase.last ≡ s → eqb c.force last_force ≡ t → P (cond s (cond t in_turn in_force) in_phase)
      cases true true e f = turn (eqb-true c.phase Phase.last e) (eqb-true c.force last_force f)
      cases true false e f = force (eqb-true c.phase Phase.last e) (eqb-false c.force last_force f)
      cases false t e f = phase (eqb-false c.phase Phase.last e)

      pub next_by : P (next_clock c)
      unfolding next_clock
      next_by = cases (eqb c.phase Phase.last) (eqb c.force last_force) refl refl

pub not_last : (last : ℕ) (c : Clock) → is_last c last ≡ false → c.phase ≡ Phase.last → c.force ≡ last_force → c.turn ≡ last → ⊥
unfolding is_last
not_last last c e ph f = eqb-false c.turn last (simp (eq-eqb c.phase Phase.last ph, eq-eqb c.force last_force f) at e)

-- a clock that may be and is not the last: so may the next, and a phase less is left
module _ (last : ℕ) (c : Clock) (t : Timely last c) (more : is_last c last ≡ false) where
  later : c.phase ≡ Phase.last → c.force ≡ last_force → c.turn < last
  later ph f = at (ℕ_discrete c.turn last)
    where
      at : Dec (c.turn ≡ last) → c.turn < last
      at (yes e) = absurd (not_last last c more ph f e)
      at (no n) = omega (arith, t.turn)

  pub next_timely : Timely last (next_clock c)
  next_timely =
      next_by (Timely last) c
      (λ ph f. record { turn = omega (arith, later ph f); force = omega arith; phase = omega arith })
      (λ ph f. record { turn = t.turn; force = omega (arith, t.force); phase = omega arith })
      (λ ph. record { turn = t.turn; force = t.force; phase = omega (arith, t.phase) })

  pub next_less : phases_left last (next_clock c) + 1 ≡ phases_left last c
  unfolding phases_left
  next_less =
      next_by (λ d. phases_left last d + 1 ≡ phases_left last c) c
      (λ ph f. omega (arith, later ph f))
      (λ ph f. omega (arith, t.force))
      (λ ph. omega (arith, t.phase))

-- and the turn does not go back
pub next_turn : (c : Clock) → c.turn ≤ (next_clock c).turn
next_turn c = next_by (λ d. c.turn ≤ d.turn) c (λ ph f. omega arith) (λ ph f. omega arith) (λ ph. omega arith)
