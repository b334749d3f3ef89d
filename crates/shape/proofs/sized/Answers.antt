-- `shape::sized` meets its contract: the columns' count is read first, the rest is `with_map`'s.
-- Assumes nothing.
use mathlib.Core.Path.{sym}
use native.Mathlib.Omega.{arith}
use Rattle.position.specs.Layout.{columns, map_at, units_at, desk_at}
use Rattle.position.proofs.Answers.{said, unsaid, carry}
use Rattle.shape.proofs.sized.Goals as goal

pub returns-then-p : goal.returns-then-p
unfolding map_at units_at desk_at
returns-then-p c = λ t. omega arith

pub returns-then-not-within : goal.returns-then-not-within
unfolding columns
returns-then-not-within c =
    λ t. unsaid c.within.result c.if-not-within.true c.within.ensures
    (carry (sym c.wide-cols.ensures.is) t.columns)

pub with_map-requires : goal.with_map-requires
unfolding columns
with_map-requires c =
    (c.wide-cols.ensures.is, said c.within.result c.if-not-within.false c.within.ensures)
