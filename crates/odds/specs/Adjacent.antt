-- Beside what is certain: vocabulary of contracts and proofs.
-- What the odds take for granted of an attacker.
-- Assumes nothing.
use Rattle.std.specs.Prelude.{ℕ, ◌<◌, ◌≡◌, true, List, length, get_or}
use Rattle.position.specs.Board.{Board}
use Rattle.position.specs.Ground.{joined}

-- unit u is "adjacent over an unblocked side" to the target
abbrev pub Adjacent : Board → ℕ → ℕ → Type 0
Adjacent b target u = joined b.map (b.units.state.hex u) target ≡ true

abbrev pub AllAdjacent : Board → ℕ → List ℕ → Type 0
AllAdjacent b target units = (i : ℕ) → i < length units → Adjacent b target (get_or units i 0)
