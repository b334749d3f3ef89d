-- How many units: in a hex, with a role, in routes.
-- Assumes nothing.
use Rattle.std.specs.Prelude.{ℕ, Bool, not, ◌&&◌, eqb}
use Rattle.position.specs.Role as Role
use Rattle.position.specs.Tally.{tally, any}
use Rattle.position.specs.Layout.{route_count}
use Rattle.position.specs.Board.{Board, nowhere}

-- the units that count towards three in hex h
unfoldable pub crowd : Board → ℕ → ℕ
crowd b h = tally (λ u. eqb (b.units.state.hex u) h) b.units.count

-- the same without unit u: "three others"
unfoldable pub others : Board → ℕ → ℕ → ℕ
others b u h = tally (λ w. eqb (b.units.state.hex w) h && not (eqb w u)) b.units.count

-- the units that have a role
unfoldable pub holders : Board → ℕ → ℕ
holders b r = tally (λ u. eqb (b.units.state.role u) r) b.units.count

-- unit u owes, and stands where hex h is
unfoldable pub owes_at : Board → ℕ → ℕ → Bool
owes_at b h u = eqb (b.units.state.role u) Role.owes && eqb (b.units.state.hex u) h

-- "role 1 units stand in k hexes": each such hex is counted at the lowest-numbered of its role 1 units
unfoldable pub owing_hexes : Board → ℕ
owing_hexes b =
    tally (λ u. eqb (b.units.state.role u) Role.owes && not (any (owes_at b (b.units.state.hex u)) u)) b.units.count

-- a route is filled if its first number is one of a hex
unfoldable pub filled : Board → ℕ → Bool
filled b r = not (eqb (b.desk.route r 0) nowhere)

unfoldable pub routes : Board → ℕ
routes b = tally (filled b) route_count
