-- `some` meets its contract. The invariant: as long as none is found, none of the hexes below hex i has the mark.
-- Assumes nothing.
use mathlib.Core.Path.{sym, ◌∙◌}
use Rattle.walk.specs.Chain.{mark}
use Rattle.walk.proofs.Joins.{none_more, found_one}
use Rattle.sweeping.proofs.row.some.Goals as goal
use Rattle.sweeping.proofs.row.some.Goals.{then-buf-i, else-buf-i}

pub loop-i-preserved : goal.loop-i-preserved
unfolding mark
loop-i-preserved c =
    elim c.if-buf-i.branch [
      | then-buf-i w ↦ λ e. found_one (sym w.found-is ∙ e)
      | else-buf-i w ↦ λ e. none_more _ _ (c.loop-i.invariant (sym w.found-is ∙ e)) w.if-buf-i.false
    ]
