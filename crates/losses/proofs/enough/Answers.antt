-- `losses::enough` meets its contract: the total is held to the need first, then all are asked for.
-- Assumes nothing.
use mathlib.Core.Bool.{not}
use mathlib.Core.Path.{ap, sym, ◌∙◌}
use native.Mathlib.Omega.{arith}
use Rattle.aftermath.proofs.Losing.{enough_all, enough_need}
use Rattle.losses.proofs.enough.Goals as goal

pub returns-then-need-shown_total : goal.returns-then-need-shown_total
returns-then-need-shown_total c = sym (enough_need _ _ (omega (arith, c.if-need-shown_total.true, c.need.ensures.is, c.shown_total.ensures)))

pub returns : goal.returns
returns c =
    ap not c.any_spared.ensures
    ∙ sym (enough_all _ _ (omega (arith, c.if-need-shown_total.false, c.need.ensures.is, c.shown_total.ensures)))
