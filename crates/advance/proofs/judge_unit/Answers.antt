-- `advance::judge_unit` meets its contract: each test's answer is its function's, one after the other.
-- Assumes nothing.
use mathlib.Core.Bool.{not}
use mathlib.Core.Path.{ap, sym, ◌∙◌}
use native.Mathlib.Omega.{arith}
use borrow.Author.Tests.{le-leb, lt-leb}
use Rattle.position.specs.Board.{board}
use Rattle.position.specs.Crowd.{others}
use Rattle.position.specs.Kind.{moves_by_land}
use Rattle.ruling.proofs.Meets.{pass, stop}
use Rattle.aftermath.proofs.Advancing.{advance_may, advance_not}
use Rattle.aftermath.specs.Advance.{unit_checks}
use Rattle.advance.proofs.judge_unit.Goals as goal

pub returns-then-role-ne-ADVANCES : goal.returns-then-role-ne-ADVANCES
unfolding unit_checks
returns-then-role-ne-ADVANCES c = λ l v. stop (ap not (advance_not _ _ (λ e. c.if-role-ne-ADVANCES.true (c.role.ensures.is ∙ e))))

pub returns-then-not-moves_by_land : goal.returns-then-not-moves_by_land
unfolding unit_checks
returns-then-not-moves_by_land c = λ l v. pass (ap not (advance_may _ _ (sym c.role.ensures.is ∙ c.if-role-ne-ADVANCES.false))) (stop (ap not (sym (c.moves_by_land.ensures ∙ ap moves_by_land c.kind.ensures.is) ∙ c.if-not-moves_by_land.true)))

pub returns-then-no_route : goal.returns-then-no_route
unfolding unit_checks
returns-then-no_route c = λ l v. pass (ap not (advance_may _ _ (sym c.role.ensures.is ∙ c.if-role-ne-ADVANCES.false))) (pass (ap not (sym (c.moves_by_land.ensures ∙ ap moves_by_land c.kind.ensures.is) ∙ c.if-not-moves_by_land.false)) (stop (sym c.no_route.ensures ∙ c.if-no_route.true)))

pub returns-then-others-ge3 : goal.returns-then-others-ge3
unfolding unit_checks
returns-then-others-ge3 c =
    let a = c.args in
    λ l v.
    pass (ap not (advance_may _ _ (sym c.role.ensures.is ∙ c.if-role-ne-ADVANCES.false)))
    (pass (ap not (sym (c.moves_by_land.ensures ∙ ap moves_by_land c.kind.ensures.is) ∙ c.if-not-moves_by_land.false))
    (pass (sym c.no_route.ensures ∙ c.if-no_route.false)
    (stop (le-leb 3 (others (board a.p.now) a.u a.hex) (omega (arith, c.if-others-ge3.true, c.others.ensures.is))))))

pub returns : goal.returns
unfolding unit_checks
returns c =
    let a = c.args in (
      λ l v r q m w.
          pass (ap not (advance_may _ _ (sym c.role.ensures.is ∙ c.if-role-ne-ADVANCES.false)))
          (pass (ap not (sym (c.moves_by_land.ensures ∙ ap moves_by_land c.kind.ensures.is) ∙ c.if-not-moves_by_land.false))
          (pass (sym c.no_route.ensures ∙ c.if-no_route.false)
          (pass (lt-leb 3 (others (board a.p.now) a.u a.hex) (omega (arith, c.if-others-ge3.false, c.others.ensures.is))) w))),
      tt,
    )
