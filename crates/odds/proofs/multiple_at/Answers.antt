-- `odds::multiple_at` meets its contract: the larger of the terrain's multiple and the smallest that is crossed.
-- Assumes nothing.
use mathlib.Core.Path.{◌∙◌, ap}
use Rattle.grid.proofs.Arith.{small}
use Rattle.position.specs.Board.{board}
use Rattle.odds.proofs.Columns.{larger_below, larger_max, multiple_read}
use Rattle.odds.proofs.multiple_at.Goals as goal

pub smallest-requires : goal.smallest-requires
smallest-requires c = c.requires

pub returns : goal.returns
returns c =
    let a = c.args in
    let b = board a.p.now in
    record {
      is = multiple_read b a.target a.units.now (c.multiple-terrain.ensures.is ∙ ap b.chart.multiple c.terrain.ensures.is) c.smallest.ensures.is (c.max.ensures ∙ larger_max _ _);
      small = rw (c.max.ensures ∙ larger_max _ _) (larger_below c.multiple-terrain.result c.smallest.result 256 c.multiple-terrain.ensures.small c.smallest.ensures.small);
    }
