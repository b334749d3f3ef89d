-- `settling::mark_all` meets its contract. The loop's invariant: the units passed have fought.
-- Assumes nothing.
use mathlib.Core.Path.{refl}
use native.Mathlib.Omega.{arith}
use Rattle.results.proofs.Settles.{fought_byte, marking_more, marking_none}
use Rattle.results.proofs.settling.mark_all.Goals as goal

pub loop-u-init : goal.loop-u-init
loop-u-init c = marking_none c.requires

pub mark-requires : goal.mark-requires
mark-requires c = (c.loop-u.invariant.laid, rw c.with.ensures (fought_byte _ c.marks-m.ensures.small))

pub loop-u-preserved : goal.loop-u-preserved
loop-u-preserved c = marking_more c.loop-u.invariant (omega arith) refl c.marks-m.ensures.is c.with.ensures c.mark.ensures
