-- `read::route` meets its contract: 65535 past the last route and its last number, and two bytes of the desk up to them.
-- Assumes nothing.
use native.Mathlib.Omega.{arith}
use Rattle.position.proofs.Tables.{route_in, route_past, route_over}
use Rattle.position.proofs.read.route.Goals as goal

pub returns-then-r-ge-ROUTE_COUNT : goal.returns-then-r-ge-ROUTE_COUNT
returns-then-r-ge-ROUTE_COUNT c =
    let a = c.args in
    record { is = omega (arith, route_past a.p.now a.r a.j (omega arith)); small = omega arith }

pub returns-then-j-ge-ROUTE_HEXES : goal.returns-then-j-ge-ROUTE_HEXES
returns-then-j-ge-ROUTE_HEXES c =
    let a = c.args in
    record { is = omega (arith, route_over a.p.now a.r a.j (omega arith) (omega arith)); small = omega arith }

pub returns : goal.returns
returns c =
    let a = c.args in
    record { is = omega (arith, route_in a.p.now a.r a.j (omega arith) (omega arith)); small = omega arith }
