-- `moving::steps` meets its contract. The loop's invariant: what meets the tests from the next place on, where the move has come to
-- and with what it has spent, meets them all, and it is known whether the next step leaves a zone. The measure is how many places
-- are left.
-- Assumes nothing.
use Prim.Native.Nat.{ℕ, ◌+◌}
use mathlib.Core.Path.{refl, sym, subst, ◌∙◌}
use native.Mathlib.Omega.{arith}
use lib.ListN.{get_or}
use Rattle.std.proofs.lemmas.Result.{err_from_is_err_and}
use Rattle.position.specs.Board.{board}
use Rattle.march.specs.Move.{leg, step, after_step, steps}
use Rattle.ruling.proofs.Going.{Gone, gone_none, gone_stop, gone_end}
use Rattle.march.proofs.Steps.{leaves_first, leaves_later}
use Rattle.march.proofs.Judging.{gone_step}
use Rattle.moving.proofs.steps.Goals as goal

pub loop-i-init : goal.loop-i-init
loop-i-init c =
    let a = c.args in
    let b = board a.p.now in
    let first = leg (b.units.state.hex a.u) 0 in (
      subst (λ (h : ℕ). Gone a.p.now (step b a.u) (after_step b) first a.path.now 0 (leg h 0)) (sym c.hex-at.ensures.is) gone_none,
      omega arith,
      sym (leaves_first b a.u (leg c.hex-at.result 0) 1 (omega arith)),
    )

pub one_step-requires : goal.one_step-requires
one_step-requires c = (c.requires.0, c.loop-i.invariant.1, c.loop-i.invariant.2)

pub returns-in_err-total : goal.returns-in_err-total
unfolding steps
returns-in_err-total c =
    let e = err_from_is_err_and c.from_residual.result c.from_residual.ensures.1 in
    rw (e.1, e.2) (gone_stop c.loop-i.invariant.0 (omega arith) c.in_err-total.ensures)

pub loop-i-preserved : goal.loop-i-preserved
loop-i-preserved c =
    let w = c.in_ok-total.ensures in
    let i = c.loop-i in
    let a = c.args in
    let b = board a.p.now in (
      gone_step b a.u i.invariant.0 (omega arith) w,
      w.small,
      w.enters ∙ sym (leaves_later b a.u (leg (get_or a.path.now i.i 0) c.in_ok-total.total) (i.i + 1 + 1) (omega arith)),
    )

pub returns : goal.returns
unfolding steps
returns c = record { leg = leg c.loop-i.at c.loop-i.spent; at = refl; passes = gone_end c.loop-i.invariant.0 (omega arith) }
