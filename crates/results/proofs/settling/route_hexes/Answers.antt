-- `settling::route_hexes` meets its contract. The loop's invariant: the hexes of those passed are written, once each.
--
-- Assumes nothing.
use native.Mathlib.Omega.{arith}
use Rattle.results.proofs.Settles.{laid_once, routing_more, routing_none}
use Rattle.results.proofs.settling.route_hexes.Goals as goal

pub loop-i-init : goal.loop-i-init
loop-i-init c = routing_none c.requires.0

pub loop-i-preserved : goal.loop-i-preserved
loop-i-preserved c = routing_more c.requires.0.shaped c.loop-i.invariant (omega arith) c.route_once-r.ensures (laid_once c.loop-i.invariant.laid c.route_once-r.ensures)
