-- `source_after` meets its contract: after the last row there is no hex, and after any other lies the row with the number above.
-- Assumes nothing.
use native.Mathlib.Omega.{arith}
use Rattle.walk.proofs.Marks.{mark_in_lem}
use Rattle.walk.proofs.Joins.{row_past, row_next}
use Rattle.sweeping.proofs.row.source_after.Goals as goal

pub returns-then-v-row : goal.returns-then-v-row
returns-then-v-row c =
    let z = row_next c.args.row c.args.v.width in
    let y = row_past c.args.v.width c.if-v-row.true in
    λ e k p q t. absurd (omega (arith, c.requires.1, mark_in_lem c.args.buf.now k (omega arith)))
