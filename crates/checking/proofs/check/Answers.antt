-- `check` meets its contract: the shape is asked for first, then what the board shows, and the strengths last.
-- Assumes nothing.
use mathlib.Core.Path.{subst}
use Rattle.position.specs.Laid.{LaidOf}
use Rattle.position.proofs.Answers.{said, unsaid}
use Rattle.checking.proofs.check.Goals as goal

pub returns-in_err-v : goal.returns-in_err-v
returns-in_err-v c = rw c.from_residual.ensures (λ t. c.in_err-v.ensures t.shaped)

pub lawful-requires : goal.lawful-requires
lawful-requires c = c.in_ok-v.ensures

pub returns-then-not-lawful : goal.returns-then-not-lawful
returns-then-not-lawful c = λ t. unsaid c.lawful.result c.if-not-lawful.true c.lawful.ensures t.lawful

pub strengths_ok-requires : goal.strengths_ok-requires
strengths_ok-requires c = c.in_ok-v.ensures

pub returns-then-not-strengths_ok : goal.returns-then-not-strengths_ok
returns-then-not-strengths_ok c =
    λ t. unsaid c.strengths_ok.result c.if-not-strengths_ok.true c.strengths_ok.ensures t.strengths

pub returns : goal.returns
returns c =
    let l = c.in_ok-v.ensures in (
      record {
        shaped = l.shaped;
        strengths = said c.strengths_ok.result c.if-not-strengths_ok.false c.strengths_ok.ensures;
        lawful = said c.lawful.result c.if-not-lawful.false c.lawful.ensures;
      },
      l,
    )
