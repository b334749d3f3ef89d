-- `ink::inked` meets its contract: a mark is added where it was not there.
-- Assumes nothing.
use mathlib.Core.Path.{sym, ◌∙◌}
use Rattle.paint.proofs.Inks.{inked_has, inked_new, inked_fits}
use Rattle.paint.proofs.ink.inked.Goals as goal

pub returns-then-has : goal.returns-then-has
returns-then-has c = (sym (inked_has _ _ (sym c.has.ensures ∙ c.if-has.true)), c.requires.1)

pub returns : goal.returns
returns c =
    let e = sym c.has.ensures ∙ c.if-has.false in
    (sym (inked_new _ _ e), inked_fits c.requires.0 e c.requires.1)
