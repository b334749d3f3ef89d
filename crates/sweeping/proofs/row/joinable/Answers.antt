-- `joinable` meets its contract: without an open hex, and without a source in three rows, no open hex of the row has a source beside it.
-- Assumes nothing.
use Rattle.walk.proofs.Joins.{row_apart}
use Rattle.sweeping.proofs.row.joinable.Goals as goal

pub returns : goal.returns
returns c =
    λ e.
    row_apart c.requires.0 c.args.row (c.source_before.ensures c.if-source_before.false) (c.has-2.ensures c.if-has.false) (c.source_after.ensures e)
