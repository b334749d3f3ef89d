-- `stepping::neutral_there` meets its contract: the units are asked, or nobody stands there.
-- Assumes nothing.
use mathlib.Core.Path.{sym, ◌∙◌}
use borrow.Author.Tests.{not-false}
use Rattle.paint.proofs.Units.{marked_held}
use Rattle.march.proofs.Steps.{no_neutral}
use Rattle.stepping.proofs.neutral_there.Goals as goal

pub returns : goal.returns
returns c =
    let held = marked_held c.requires.1 in
    sym (no_neutral _ _ _ (not-false _ (sym held ∙ sym c.has.ensures ∙ c.if-has.false)))
