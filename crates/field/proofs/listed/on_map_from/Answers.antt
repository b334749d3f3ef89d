-- `listed::on_map_from` meets its contract. The loop's invariant: what meets the tests from the next place on meets them all.
-- Assumes nothing.
use native.Mathlib.Omega.{arith}
use Rattle.field.proofs.Lists.{map_end, map_more, map_none, map_stop}
use Rattle.field.proofs.listed.on_map_from.Goals as goal

pub loop-i-init : goal.loop-i-init
loop-i-init c = map_none

pub returns-then-hexes-h : goal.returns-then-hexes-h
returns-then-hexes-h c = map_stop c.loop-i.invariant (omega arith) (omega arith)

pub loop-i-preserved : goal.loop-i-preserved
loop-i-preserved c = map_more c.loop-i.invariant (omega arith) (omega arith)

pub returns : goal.returns
returns c = (map_end c.loop-i.invariant (omega arith), λ j l. c.loop-i.invariant.charted j (omega arith))
