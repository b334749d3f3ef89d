-- `judge` meets its contract: the plot round the start is drawn, and answers as the board does.
-- Assumes nothing.
use Prim.Native.Nat.{ℕ, ◌*◌}
use mathlib.Core.Path.{refl, ap, ap₂, subst, ◌∙◌}
use native.Mathlib.Omega.{arith}
use Rattle.position.specs.Board.{board}
use Rattle.position.proofs.Sides.{on_view}
use Rattle.grid.specs.Region.{Round, place_of}
use Rattle.grid.proofs.Walks.{same_zero}
use Rattle.pushes.proofs.Judging.{as_on_board}
use Rattle.pushes.proofs.judge.Goals as goal

pub spot-s-requires : goal.spot-s-requires
spot-s-requires c = on_view c.requires.0 _ c.requires.1

pub round-at-requires : goal.round-at-requires
round-at-requires c = (c.spot-s.ensures.0, omega arith)

pub draw-requires : goal.draw-requires
draw-requires c =
    let a = c.args in
    let s = c.spot-s.ensures in
    let r = subst (λ (x : ℕ). Round a.v.width a.v.height x 6 c.round-at.result) s.1 c.round-at.ensures in
    (c.requires.0, r, refl)

pub place-requires : goal.place-requires
place-requires c =
    let s = c.spot-s.ensures.0 in
    let r = c.round-at.ensures in
    (s, r.ok, r.near _ s.on (omega (arith, same_zero c.args.v.width c.spot-s.result.hex)))

pub judge_by-requires : goal.judge_by-requires
judge_by-requires c =
    let r = c.round-at.ensures in
    (c.draw.ensures.long, r.ok, omega (arith, c.place.ensures.1, ap₂ (λ (m n : ℕ). m * n) r.wide r.high), c.requires.2)

pub returns : goal.returns
returns c =
    let a = c.args in
    let view = c.requires.0.view in
    let s = c.spot-s.ensures in
    let r = subst (λ (x : ℕ). Round a.v.width a.v.height x 6 c.round-at.result) s.1 c.round-at.ensures in
    let e = c.place.ensures.0 ∙ ap (place_of a.v.width c.round-at.result) s.1 in
    let o = on_view c.requires.0 a.start c.requires.1 in
    rw (view.width, view.height) at c.judge_by.ensures
    ∙ as_on_board (board a.p.now) a.f a.start c.place.result c.round-at.result _ (rw (view.width, view.height) at o)
    (rw (view.width, view.height) at r) (rw view.width at e) c.draw.ensures a.n a.route.now a.pushes.now c.requires.2
