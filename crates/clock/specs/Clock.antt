-- The clock of turn, force and phase: the one place that knows the order.
-- Assumes nothing.
use Rattle.std.specs.Prelude.{ℕ, ◌+◌, ◌-◌, ◌*◌, ◌≤◌, Bool, cond, ◌&&◌, ◌||◌, eqb}
use Rattle.clock.specs.declared.Clock.{Clock}
use Rattle.clock.specs.Phase as Phase

-- "force 0..3"
abbrev pub last_force : ℕ
last_force = 3

-- which force has which phase: "passes 0, 1, 2, then the next force", so each has all of them
abbrev pub HasPhase : ℕ → ℕ → Type 0
HasPhase force phase = phase ≤ Phase.last

-- "passes 0, 1, 2, then the next force, and after force 3 the next turn"
unfoldable pub next_clock : Clock → Clock
next_clock c =
    cond (eqb c.phase Phase.last)
    (cond (eqb c.force last_force)
    (record { turn = c.turn + 1; force = 0; phase = Phase.first })
    (record { turn = c.turn; force = c.force + 1; phase = Phase.first }))
    (record { turn = c.turn; force = c.force; phase = c.phase + 1 })

-- a clock that may be: "force 0..3", in a phase that it has and a turn up to the last
pub record Timely (last_turn : ℕ) (c : Clock) : Type 0 where
  pub turn : c.turn ≤ last_turn
  pub force : c.force ≤ last_force
  pub phase : HasPhase c.force c.phase

-- how many phases come after this one
unfoldable pub phases_left : ℕ → Clock → ℕ
phases_left last_turn c =
    Phase.count * (last_force + 1) * (last_turn - c.turn) + (Phase.count * (last_force - c.force) + (Phase.last - c.phase))

-- "last phase of the last turn"
unfoldable pub is_last : Clock → ℕ → Bool
is_last c last_turn = eqb c.phase Phase.last && (eqb c.force last_force && eqb c.turn last_turn)

-- "On entering phase 0 or 2"
unfoldable pub judges_supply : Clock → Bool
judges_supply c = eqb c.phase Phase.land || eqb c.phase Phase.mechanised
