-- Whose phase it is.
-- Assumes nothing.
use Rattle.std.specs.Prelude.{ℕ, Bool, not, ◌||◌, eqb}
use Rattle.position.specs.Board.{Board, nowhere, force_of}

-- "unit destroyed or not of the phasing force"
unfoldable pub not_phasing : Board → ℕ → Bool
not_phasing b u = eqb (b.units.state.hex u) nowhere || not (eqb (force_of b u) b.desk.clock.force)
