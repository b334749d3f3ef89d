-- `shape::with_map` meets its contract: width and height are read where the columns end.
-- Assumes nothing.
use mathlib.Core.Path.{sym, ◌∙◌}
use native.Mathlib.Omega.{arith}
use Rattle.position.specs.Layout.{map_at, units_at, desk_at}
use Rattle.position.proofs.Answers.{said, unsaid, carry}
use Rattle.position.proofs.Shapes.{width_is, height_is}
use Rattle.shape.proofs.with_map.Goals as goal

pub returns-then-p-map : goal.returns-then-p-map
unfolding map_at units_at desk_at
returns-then-p-map c = λ t. omega arith

pub returns-then-not-within : goal.returns-then-not-within
returns-then-not-within c =
    λ t. unsaid c.within.result c.if-not-within.true c.within.ensures
    (carry (sym (c.wide-wide.ensures.is ∙ width_is _ c.requires.0)) t.width)

pub returns-then-not-within-2 : goal.returns-then-not-within-2
returns-then-not-within-2 c =
    λ t. unsaid c.within-2.result c.if-not-within-2.true c.within-2.ensures
    (carry (sym (c.wide-high.ensures.is ∙ height_is _ c.requires.0)) t.height)

pub with_units-requires : goal.with_units-requires
with_units-requires c = record {
  cols_value = c.requires;
  wide_value = (
    c.wide-wide.ensures.is
        ∙ width_is _ c.requires.0,
    said c.within.result c.if-not-within.false c.within.ensures,
  );
  high_value = (
    c.wide-high.ensures.is ∙ height_is _ c.requires.0,
    said c.within-2.result c.if-not-within-2.false
        c.within-2.ensures,
  );
}
