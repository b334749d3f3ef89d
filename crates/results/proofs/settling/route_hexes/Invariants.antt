-- `settling::route_hexes` meets its contract. The loop's invariant: the hexes of those passed are written, once each.
--
-- Assumes nothing.
use Rattle.results.proofs.Settles.{Routing}
use Rattle.results.proofs.settling.route_hexes.Given as goal

abbrev pub invariant-loop-i : goal.invariant-loop-i
invariant-loop-i l = Routing l.initial.p l.v l.units l.i l.r l.p
