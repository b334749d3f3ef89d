-- `moving::judge_move` meets its contract: each test's answer is its function's, one after the other.
-- Assumes nothing.
use Prim.Native.Nat.{ℕ, ◌≤◌, ◌<◌}
use mathlib.Core.Path.{◌≡◌, sym, ap, subst, ◌∙◌}
use mathlib.Core.Bool.{true, not}
use native.Mathlib.Omega.{arith}
use mathlib.Core.List.{List}
use lib.ListN.{length}
use lib.Dec.{leb}
use borrow.Author.Tests.{le-leb, lt-leb}
use Rattle.std.proofs.lemmas.Result.{err_from_is_err_and}
use Rattle.position.specs.Board.{board}
use Rattle.ruling.specs.Verdict.Verdict.{refuse_if}
use Rattle.ruling.proofs.Meets.{pass, stop}
use Rattle.march.specs.Move.{path_length, may_move_now, move_checks}
use Rattle.ruling.specs.Judged.{Passes}
use Rattle.field.specs.Listed.{on_map_all}
use Rattle.march.proofs.Moves.{path_short, path_long, path_fits}
use Rattle.march.proofs.Judging.{path_through}
use Rattle.moving.proofs.judge_move.Goals as goal

-- the tests passed so far: of the lengths and numbers, along the path, and of the time
module _ (p path : List ℕ) (u : ℕ) where
  to_map : 1 ≤ length path → length path ≤ 30 → u < (board p).units.count → Passes p (on_map_all (board p) path)
      → Passes p (λ v. refuse_if (not (path_length path)) 3 0
      (refuse_if (leb (board p).units.count u) 3 0 (on_map_all (board p) path v)))
  to_map lo hi e f l v a q m w =
      pass (ap not (path_fits _ lo hi)) (pass (lt-leb (board p).units.count u e) (f l v a q m w))

  to-now : 1 ≤ length path → length path ≤ 30 → u < (board p).units.count → Passes p (on_map_all (board p) path)
      → may_move_now (board p) ≡ true
      → Passes p (λ v. refuse_if (not (path_length path)) 3 0
      (refuse_if (leb (board p).units.count u) 3 0
      (on_map_all (board p) path (refuse_if (not (may_move_now (board p))) 2 0 v))))
  to-now lo hi e f g l v a q m w = to_map lo hi e f l _ a q m (pass (ap not g) w)

pub returns-then-long-lt1 : goal.returns-then-long-lt1
unfolding move_checks
returns-then-long-lt1 c = λ l v. stop (ap not (path_short _ c.if-long-lt1.true))

pub returns-then-long-gt30 : goal.returns-then-long-gt30
unfolding move_checks
returns-then-long-gt30 c = λ l v. stop (ap not (path_long _ c.if-long-gt30.true))

pub returns-then-count-u : goal.returns-then-count-u
unfolding move_checks
returns-then-count-u c =
    let a = c.args in
    λ l v. pass (ap not (path_fits _ (omega arith) (omega arith))) (stop (le-leb (board a.p.now).units.count a.u (omega arith)))

pub on_map_all-requires : goal.on_map_all-requires
on_map_all-requires c = (c.requires, omega arith)

pub returns-in_err-on_map_all : goal.returns-in_err-on_map_all
unfolding move_checks
returns-in_err-on_map_all c =
    let e = err_from_is_err_and c.from_residual.result c.from_residual.ensures.1 in
    rw (e.1, e.2) (λ l v. pass (ap not (path_fits _ (omega arith) (omega arith))) (pass (let a = c.args in
    lt-leb (board a.p.now).units.count a.u (omega arith)) (c.in_err-on_map_all.ensures l _)))

pub returns-then-not-may_move_now : goal.returns-then-not-may_move_now
unfolding move_checks
returns-then-not-may_move_now c =
    λ l v. to_map c.args.p.now c.args.path.now c.args.u (omega arith) (omega arith) (omega arith) c.in_ok-on_map_all.ensures.0 l _ _ _ _ (stop (ap not (sym c.may_move_now.ensures ∙ c.if-not-may_move_now.true)))

pub returns-then-not_phasing : goal.returns-then-not_phasing
unfolding move_checks
returns-then-not_phasing c =
    λ l v. to-now c.args.p.now c.args.path.now c.args.u (omega arith) (omega arith) (omega arith) c.in_ok-on_map_all.ensures.0 (sym c.may_move_now.ensures ∙ c.if-not-may_move_now.false) l _ _ _ _ (stop (sym c.not_phasing.ensures ∙ c.if-not_phasing.true))

pub returns-then-forbidden : goal.returns-then-forbidden
unfolding move_checks
returns-then-forbidden c =
    λ l v.
    to-now c.args.p.now c.args.path.now c.args.u (omega arith) (omega arith) (omega arith) c.in_ok-on_map_all.ensures.0 (sym c.may_move_now.ensures ∙ c.if-not-may_move_now.false) l _ _ _ _
    (pass (sym c.not_phasing.ensures ∙ c.if-not_phasing.false) (stop (sym c.forbidden.ensures ∙ c.if-forbidden.true)))

pub steps-requires : goal.steps-requires
steps-requires c = (c.requires, omega arith)

pub returns : goal.returns
unfolding move_checks
returns c =
    path_through
    (λ l v a q m w.
    to-now c.args.p.now c.args.path.now c.args.u (omega arith) (omega arith) (omega arith) c.in_ok-on_map_all.ensures.0 (sym c.may_move_now.ensures ∙ c.if-not-may_move_now.false) l _ a q m
    (pass (sym c.not_phasing.ensures ∙ c.if-not_phasing.false) (pass (sym c.forbidden.ensures ∙ c.if-forbidden.false) w)))
    c.steps.result
    c.steps.ensures
