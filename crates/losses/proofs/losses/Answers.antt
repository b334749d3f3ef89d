-- `losses::losses` meets its promise: the questions of losses, then the losses.
-- Assumes nothing.
use mathlib.Core.Path.{subst}
use mathlib.Core.List.{[]}
use Rattle.std.proofs.lemmas.Result.{err_from_is_err_and}
use Rattle.ruling.proofs.Meets.{ruled}
use Rattle.aftermath.specs.Losses.{losses_rule}
use Rattle.losses.proofs.losses.Goals as goal

pub returns-in_err-judge_losses : goal.returns-in_err-judge_losses
unfolding losses_rule
returns-in_err-judge_losses c =
    let e = err_from_is_err_and c.from_residual.result c.from_residual.ensures.1 in
    rw (e.1, e.2) (c.in_err-judge_losses.ensures [] _)

pub returns : goal.returns
unfolding losses_rule
returns c =
    c.in_ok-judge_losses.ensures.0 [] _ _ _ [] (ruled c.lose.ensures)
