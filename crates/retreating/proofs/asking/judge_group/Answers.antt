-- `asking::judge_group` meets its contract: the numbers, the stage, and then whether anyone owes.
-- Assumes nothing.
use mathlib.Core.Path.{subst, sym, ◌∙◌}
use native.Mathlib.Omega.{arith}
use Rattle.std.proofs.lemmas.Result.{err_from_is_err_and}
use Rattle.position.specs.Board.{board}
use Rattle.retreat.proofs.Groups.{
  passes_group,
  stops_hex,
  stops_long,
  stops_many,
  stops_pushes,
  stops_role,
  stops_route,
  stops_stage,
}
use Rattle.retreating.proofs.asking.judge_group.Goals as goal

pub returns-then-route-gt3 : goal.returns-then-route-gt3
returns-then-route-gt3 c =
    let s = c.args in
    stops_long s.p.now (board s.p.now) s.h s.route.now s.pushes.now (omega (arith, c.if-route-gt3.true))

pub returns-then-pushes-gt9 : goal.returns-then-pushes-gt9
returns-then-pushes-gt9 c =
    let s = c.args in
    stops_many s.p.now (board s.p.now) s.h s.route.now s.pushes.now
    (omega (arith, c.if-route-gt3.false)) (omega (arith, c.if-pushes-gt9.true))

pub returns-then-hexes-h : goal.returns-then-hexes-h
returns-then-hexes-h c =
    let s = c.args in
    stops_hex s.p.now (board s.p.now) s.h s.route.now s.pushes.now
    (omega (arith, c.if-route-gt3.false)) (omega (arith, c.if-pushes-gt9.false)) (omega (arith, c.if-hexes-h.true))

pub returns-in_err-on_map_all : goal.returns-in_err-on_map_all
returns-in_err-on_map_all c =
    let e = err_from_is_err_and c.from_residual.result c.from_residual.ensures.1 in
    rw (e.1, e.2) (let s = c.args in
    stops_route s.p.now (board s.p.now) s.h s.route.now s.pushes.now
    (omega (arith, c.if-route-gt3.false)) (omega (arith, c.if-pushes-gt9.false))
    (omega (arith, c.if-hexes-h.false, c.requires.view.hexes))
    c.in_err-on_map_all.ensures)

pub returns-in_err-on_map_from : goal.returns-in_err-on_map_from
returns-in_err-on_map_from c =
    let e = err_from_is_err_and c.from_residual-in_err-on_map_from.result c.from_residual-in_err-on_map_from.ensures.1 in
    rw (e.1, e.2) (let s = c.args in
    stops_pushes s.p.now (board s.p.now) s.h s.route.now s.pushes.now
    (omega (arith, c.if-route-gt3.false)) (omega (arith, c.if-pushes-gt9.false))
    (omega (arith, c.if-hexes-h.false, c.requires.view.hexes))
    c.in_ok-on_map_all.ensures.0
    c.in_err-on_map_from.ensures)

pub returns-then-stage-ne-RETREATS : goal.returns-then-stage-ne-RETREATS
returns-then-stage-ne-RETREATS c =
    let s = c.args in
    stops_stage s.p.now (board s.p.now) s.h s.route.now s.pushes.now
    (omega (arith, c.if-route-gt3.false)) (omega (arith, c.if-pushes-gt9.false))
    (omega (arith, c.if-hexes-h.false, c.requires.view.hexes))
    c.in_ok-on_map_all.ensures.0
    c.in_ok-on_map_from.ensures.0
    (λ e. c.if-stage-ne-RETREATS.true (c.stage.ensures.is ∙ e))

pub returns-then-not-any_owes : goal.returns-then-not-any_owes
returns-then-not-any_owes c =
    let s = c.args in
    stops_role s.p.now (board s.p.now) s.h s.route.now s.pushes.now
    (omega (arith, c.if-route-gt3.false)) (omega (arith, c.if-pushes-gt9.false))
    (omega (arith, c.if-hexes-h.false, c.requires.view.hexes))
    c.in_ok-on_map_all.ensures.0
    c.in_ok-on_map_from.ensures.0
    (sym c.stage.ensures.is ∙ c.if-stage-ne-RETREATS.false)
    (sym c.any_owes.ensures ∙ c.if-not-any_owes.true)

pub returns : goal.returns
returns c =
    let s = c.args in
    passes_group s.p.now (board s.p.now) s.h s.route.now s.pushes.now
    (omega (arith, c.if-route-gt3.false)) (omega (arith, c.if-pushes-gt9.false))
    (omega (arith, c.if-hexes-h.false, c.requires.view.hexes))
    c.in_ok-on_map_all.ensures.0
    c.in_ok-on_map_from.ensures.0
    (sym c.stage.ensures.is ∙ c.if-stage-ne-RETREATS.false)
    (sym c.any_owes.ensures ∙ c.if-not-any_owes.false)
