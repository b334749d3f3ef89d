-- `grid::neighbour` meets its contract: past the test the hex is on the map, so it has a column and a row.
-- Assumes nothing.
use mathlib.Core.Path.{sym, ◌∙◌, ap}
use native.Mathlib.Omega.{arith}
use Rattle.grid.specs.Map.{hex_at, neighbour_of}
use Rattle.grid.proofs.Arith.{column, row}
use Rattle.grid.proofs.Tests.{on_facts, on_test}
use Rattle.grid.proofs.neighbour.Goals as goal

pub returns-then-not-on_map : goal.returns-then-not-on_map
unfolding neighbour_of
returns-then-not-on_map c = simp (sym c.on_map.ensures ∙ c.if-not-on_map.true)

pub nonzero_rem-c : goal.nonzero_rem-c
nonzero_rem-c c = (on_facts _ _ _ (sym c.on_map.ensures ∙ c.if-not-on_map.false)).wide

pub nonzero_div-r : goal.nonzero_div-r
nonzero_div-r c = (on_facts _ _ _ (sym c.on_map.ensures ∙ c.if-not-on_map.false)).wide

pub overflow_add-c : goal.overflow_add-c
overflow_add-c c = let o = (on_facts _ _ _ (sym c.on_map.ensures ∙ c.if-not-on_map.false)) in omega (arith, column o)

pub overflow_add-r : goal.overflow_add-r
overflow_add-r c = let o = (on_facts _ _ _ (sym c.on_map.ensures ∙ c.if-not-on_map.false)) in omega (arith, row o)

pub place_beside-p-requires : goal.place_beside-p-requires
place_beside-p-requires c = let o = (on_facts _ _ _ (sym c.on_map.ensures ∙ c.if-not-on_map.false)) in omega (arith, column o, row o)

pub hex_at-requires : goal.hex_at-requires
hex_at-requires c = let o = (on_facts _ _ _ (sym c.on_map.ensures ∙ c.if-not-on_map.false)) in (o.wide64, o.high64)

pub returns : goal.returns
unfolding neighbour_of
returns c = simp (on_test _ _ _ (on_facts _ _ _ (sym c.on_map.ensures ∙ c.if-not-on_map.false))) (c.hex_at.ensures ∙ ap (hex_at _ _) (sym c.place_beside-p.ensures))
