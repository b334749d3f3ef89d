-- `join_west` meets its contract: a hex that becomes a source has one beside it, and else nothing changes.
-- Assumes nothing.
use Rattle.walk.specs.Chain.{mark}
use Rattle.walk.proofs.Joins.{spot_in, swept_none, swept_join}
use Rattle.sweeping.proofs.join_west.Goals as goal

pub bounds-buf-at : goal.bounds-buf-at
bounds-buf-at c = spot_in c.args.buf.now c.requires.laid.0.view c.requires.laid.1 c.requires.buf_len

pub returns-then-buf-at-ne1 : goal.returns-then-buf-at-ne1
returns-then-buf-at-ne1 c = swept_none _

pub returns-then-from_west : goal.returns-then-from_west
unfolding mark
returns-then-from_west c = swept_join _ _ c.if-buf-at-ne1.false (c.from_west.ensures c.if-from_west.true)

pub returns-then-from_behind : goal.returns-then-from_behind
unfolding mark
returns-then-from_behind c = swept_join _ _ c.if-buf-at-ne1.false (c.from_behind.ensures c.if-from_behind.true)

pub returns : goal.returns
returns c = swept_none _
