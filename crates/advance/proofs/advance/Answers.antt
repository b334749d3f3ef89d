-- `advance::advance` meets its promise: the questions of an advance, then the advance.
-- Assumes nothing.
use mathlib.Core.List.{[]}
use Rattle.std.proofs.lemmas.Result.{err_from_is_err_and}
use Rattle.ruling.proofs.Meets.{ruled}
use Rattle.aftermath.specs.Advance.{advance_rule}
use Rattle.advance.proofs.advance.Goals as goal

pub returns-in_err-judge_advance : goal.returns-in_err-judge_advance
unfolding advance_rule
returns-in_err-judge_advance c =
    let e = err_from_is_err_and c.from_residual.result c.from_residual.ensures.1 in
    rw (e.1, e.2) (c.in_err-judge_advance.ensures [] _)

pub returns : goal.returns
unfolding advance_rule
returns c = c.in_ok-judge_advance.ensures.0 [] _ _ _ [] (ruled c.step_up.ensures)
