-- `region::place_in` meets its contract: off the map and outside the region there is none.
-- Assumes nothing.
use native.Mathlib.Omega.{arith}
use mathlib.Core.Path.{sym, ap, subst, ◌∙◌}
use Rattle.grid.specs.Region.{Inside, inside, place_of}
use Rattle.grid.proofs.Arith.{small}
use Rattle.grid.proofs.Tests.{on_facts}
use Rattle.grid.proofs.Regions.{inside_facts, place_some, place_none, off_map_lem}
use Rattle.grid.proofs.region.place_in.Goals as goal

pub overflow_mul-result : goal.overflow_mul-result
overflow_mul-result c = let k = c.requires in omega (arith, small k.wide k.high)

pub returns-then-not-on_map : goal.returns-then-not-on_map
returns-then-not-on_map c =
    let a = c.args in
    sym (place_none a.w a.h a.at a.x (off_map_lem a.w a.h a.at a.x (sym c.on_map.ensures ∙ c.if-not-on_map.true)))

pub spot-s-requires : goal.spot-s-requires
spot-s-requires c = on_facts _ _ _ (sym c.on_map.ensures ∙ c.if-not-on_map.false)

pub contains-requires : goal.contains-requires
contains-requires c = (c.spot-s.ensures.0, c.requires)

pub overflow_mul-result-then-not-contains : goal.overflow_mul-result-then-not-contains
overflow_mul-result-then-not-contains c = let k = c.requires in omega (arith, small k.wide k.high)

pub returns-then-not-contains : goal.returns-then-not-contains
returns-then-not-contains c =
    let a = c.args in
    let e = ap (inside a.w a.h a.at) (sym c.spot-s.ensures.1) in
    sym (place_none a.w a.h a.at a.x (e ∙ sym c.contains.ensures ∙ c.if-not-contains.true))

pub place-requires : goal.place-requires
place-requires c =
    let a = c.args in (
      c.spot-s.ensures.0,
      c.requires,
      inside_facts a.w a.h a.at c.spot-s.result.hex (sym c.contains.ensures ∙ c.if-not-contains.false),
    )

pub returns : goal.returns
returns c =
    let a = c.args in
    let q = c.spot-s.ensures.1 in
    let i = inside_facts a.w a.h a.at c.spot-s.result.hex (sym c.contains.ensures ∙ c.if-not-contains.false) in
    c.place.ensures.0
    ∙ ap (place_of a.w a.at) q
    ∙ sym (place_some a.w a.h a.at a.x (subst (Inside a.w a.h a.at) q i))
