-- `join_east` meets its contract: a hex that becomes a source has one beside it, and else nothing changes.
-- Assumes nothing.
use Rattle.walk.specs.Chain.{mark}
use Rattle.walk.proofs.Joins.{spot_in, swept_none, swept_join}
use Rattle.sweeping.proofs.join_east.Goals as goal

pub bounds-buf-at : goal.bounds-buf-at
bounds-buf-at c = spot_in c.args.buf.now c.requires.laid.0.view c.requires.laid.1 c.requires.buf_len

pub returns-then-buf-at-ne1 : goal.returns-then-buf-at-ne1
returns-then-buf-at-ne1 c = swept_none _

pub returns-then-not-from_east : goal.returns-then-not-from_east
returns-then-not-from_east c = swept_none _

pub returns : goal.returns
unfolding mark
returns c = swept_join _ _ c.if-buf-at-ne1.false (c.from_east.ensures c.if-not-from_east.false)
