-- `losses::each_loss` meets its contract. The loop's invariant: what meets the tests from the next place on meets them all.
-- Assumes nothing.
use mathlib.Core.Path.{subst}
use native.Mathlib.Omega.{arith}
use Rattle.std.proofs.lemmas.Result.{err_from_is_err_and}
use Rattle.ruling.proofs.Going.{gone_end, gone_none, gone_stop}
use Rattle.aftermath.proofs.Losing.{gone_behind}
use Rattle.aftermath.specs.Losses.{losses}
use Rattle.losses.proofs.each_loss.Goals as goal

pub loop-i-init : goal.loop-i-init
loop-i-init c = gone_none

pub loss-requires : goal.loss-requires
loss-requires c = (c.requires.0, omega arith, omega arith)

pub returns-in_err-loss : goal.returns-in_err-loss
unfolding losses
returns-in_err-loss c =
    let e = err_from_is_err_and c.from_residual.result c.from_residual.ensures.1 in
    rw (e.1, e.2) (λ l v.
    gone_stop c.loop-i.invariant (omega arith)
    c.in_err-loss.ensures l (λ s. v))

pub loop-i-preserved : goal.loop-i-preserved
loop-i-preserved c = gone_behind c.loop-i.invariant (omega arith) c.in_ok-loss.ensures.0

pub returns : goal.returns
unfolding losses
returns c = (λ l v r q m w. gone_end c.loop-i.invariant (omega arith) l (λ s. v) r q m w, tt)
