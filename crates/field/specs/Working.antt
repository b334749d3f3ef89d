-- A unit's working allowance or strength: the one place that halves.
-- Assumes nothing.
use Rattle.std.specs.Prelude.{ℕ, ◌+◌, ◌/◌, Bool, cond}
use Rattle.position.specs.Board.{Board}

-- "halved, fractions up"
unfoldable pub half : ℕ → ℕ
half n = (n + 1) / 2

-- what n comes to for unit u: "Allowance is halved, fractions up, without the supplied mark.", "Each strength out of supply at that
-- instant is halved, fractions up, unit by unit."
unfoldable pub working : Board → ℕ → Bool → ℕ → ℕ
working b u in_supply n = cond in_supply n (half n)
