-- `shape::with_units` meets its contract: what the counts come to is where the bodies begin, and where the position ends.
-- Assumes nothing.
use mathlib.Core.Path.{◌≡◌, ◌∙◌}
use native.Mathlib.Omega.{arith}
use Rattle.position.specs.Layout.{map_at, hexes, units_at, count, desk_at}
use Rattle.position.proofs.Answers.{carry}
use Rattle.position.proofs.Shapes.{area, hexes_is, count_is, named_most}
use Rattle.shape.proofs.with_units.Goals as goal

pub overflow_mul-hexes : goal.overflow_mul-hexes
overflow_mul-hexes c = omega (arith, hexes_is _ c.requires.wide_value.0 c.requires.high_value.0, area c.requires.wide_value.1 c.requires.high_value.1)

pub overflow_mul-units-2 : goal.overflow_mul-units-2
overflow_mul-units-2 c = omega (arith, hexes_is _ c.requires.wide_value.0 c.requires.high_value.0, area c.requires.wide_value.1 c.requires.high_value.1)

pub overflow_add-units-4 : goal.overflow_add-units-4
overflow_add-units-4 c = omega (arith, hexes_is _ c.requires.wide_value.0 c.requires.high_value.0, area c.requires.wide_value.1 c.requires.high_value.1)

pub overflow_add-units-5 : goal.overflow_add-units-5
overflow_add-units-5 c = omega (arith, hexes_is _ c.requires.wide_value.0 c.requires.high_value.0, area c.requires.wide_value.1 c.requires.high_value.1)

pub returns-then-p-units : goal.returns-then-p-units
unfolding map_at units_at desk_at
returns-then-p-units c = λ t. omega (arith, hexes_is _ c.requires.wide_value.0 c.requires.high_value.0, area c.requires.wide_value.1 c.requires.high_value.1)

pub returns-then-count-gt-MOST_UNITS : goal.returns-then-count-gt-MOST_UNITS
unfolding map_at units_at
returns-then-count-gt-MOST_UNITS c =
    let h = hexes_is _ c.requires.wide_value.0 c.requires.high_value.0 in
    let n : c.word-count.result ≡ count c.args.p.now = c.word-count.ensures.is ∙ count_is _ (omega arith) in
    λ t. omega arith

pub overflow_add-desk-4 : goal.overflow_add-desk-4
overflow_add-desk-4 c = omega (arith, named_most _ c.players_named-players.ensures)

pub returns-then-p-desk : goal.returns-then-p-desk
unfolding map_at units_at desk_at
returns-then-p-desk c =
    let h = hexes_is _ c.requires.wide_value.0 c.requires.high_value.0 in
    let k = area c.requires.wide_value.1 c.requires.high_value.1 in
    let n : c.word-count.result ≡ count c.args.p.now = c.word-count.ensures.is ∙ count_is _ (omega arith) in
    λ t. omega arith

pub returns : goal.returns
unfolding map_at units_at desk_at
returns c =
    let s = c.requires in
    let h = hexes_is _ c.requires.wide_value.0 c.requires.high_value.0 in
    let k = area c.requires.wide_value.1 c.requires.high_value.1 in
    let n : c.word-count.result ≡ count c.args.p.now = c.word-count.ensures.is ∙ count_is _ (omega arith) in
    record {
      columns = carry s.cols_value.0 s.cols_value.1;
      width = carry s.wide_value.0 s.wide_value.1;
      height = carry s.high_value.0 s.high_value.1;
      count = omega arith;
      whole = omega arith;
      view = record {
        width = s.wide_value.0;
        height = s.high_value.0;
        hexes = h;
        columns = s.cols_value.0;
        count = n;
        units = omega arith;
        desk = omega arith;
        players = c.players_named-players.ensures;
      };
      fits = record {
        units = omega arith;
        desk = omega arith;
        whole = omega arith;
        columns = omega arith;
        hexes = k;
        count = omega arith;
        players = named_most _ c.players_named-players.ensures;
      };
    }
