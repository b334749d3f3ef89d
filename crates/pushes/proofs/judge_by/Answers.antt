-- `judge_by` meets its contract: the plot is searched, and then asked whether the order is legal.
-- Assumes nothing.
use mathlib.Core.Path.{sym, ap, ◌∙◌}
use native.Mathlib.Omega.{arith}
use lib.ListN.{length}
use Rattle.pushes.proofs.Judging.{none_serves, sent_wrong, sent_right}
use Rattle.pushes.proofs.judge_by.Goals as goal

pub begins-requires : goal.begins-requires
begins-requires c = (c.requires.0, c.requires.2, c.requires.3)

pub returns-then-not-begins : goal.returns-then-not-begins
returns-then-not-begins c = sym (none_serves _ _ _ _ _ _ (sym c.begins.ensures.0 ∙ c.if-not-begins.true))

pub follows-requires : goal.follows-requires
follows-requires c = (ap length c.begins.ensures.1 ∙ c.requires.0, c.requires.1, c.requires.2)

pub returns-then-follows : goal.returns-then-follows
returns-then-follows c =
    sym
    (sent_right _ _ _ _ _ _ (sym c.begins.ensures.0 ∙ c.if-not-begins.false) (omega arith)
    (rw c.begins.ensures.1 at (sym c.follows.ensures ∙ c.if-follows.true)))

pub returns : goal.returns
returns c =
    sym
    (sent_wrong _ _ _ _ _ _ (sym c.begins.ensures.0 ∙ c.if-not-begins.false) (omega arith)
    (rw c.begins.ensures.1 at (sym c.follows.ensures ∙ c.if-follows.false)))
