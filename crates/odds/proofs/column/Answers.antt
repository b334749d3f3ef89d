-- `odds::column` meets its contract. The loop's invariant: `last` is the last column below c that is reached.
-- The measure is how many are left.
-- Assumes nothing.
use mathlib.Core.Path.{◌∙◌, sym}
use native.Mathlib.Omega.{arith}
use Rattle.grid.proofs.Arith.{small}
use Rattle.odds.proofs.Columns.{highest_all, highest_hit, highest_miss, highest_none}
use Rattle.odds.specs.Odds.{column, reached}
use Rattle.odds.proofs.column.Goals as goal
use Rattle.odds.proofs.column.Goals.{then-reached, else-reached}

pub loop-c-init : goal.loop-c-init
loop-c-init c = highest_none

pub loop-c-preserved : goal.loop-c-preserved
loop-c-preserved c =
    let o = c.loop-c.invariant in
    let e = c.reached.ensures in
    elim c.if-reached.branch [
      | then-reached w ↦ highest_hit o (omega arith) (sym e ∙ w.if-reached.true) w.last-is
      | else-reached w ↦ highest_miss o (omega arith) (sym e ∙ w.if-reached.false) w.last-is
    ]

pub returns : goal.returns
unfolding column
returns c =
    let v = c.requires.0 in
    record { is = highest_all c.loop-c.invariant (omega arith) v.view.columns; small = omega (arith, c.loop-c.invariant.small, v.view.columns, v.shaped.columns.high) }
