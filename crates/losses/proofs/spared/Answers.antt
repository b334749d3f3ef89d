-- `losses::spared` meets its contract: whether the unit owes is asked first, then whether the list names it.
-- Assumes nothing.
use mathlib.Core.Bool.{not}
use mathlib.Core.Path.{ap, sym, ◌∙◌}
use native.Mathlib.Omega.{arith}
use lib.ListN.{length}
use Rattle.aftermath.proofs.Losing.{named_whole, spared_not, spared_owes}
use Rattle.losses.proofs.spared.Goals as goal

pub returns-then-not-owes : goal.returns-then-not-owes
returns-then-not-owes c = sym (spared_not _ _ _ (sym c.owes.ensures ∙ c.if-not-owes.true))

pub returns : goal.returns
returns c =
    let a = c.args in
    ap not (named_whole a.units.now a.u (length a.units.now) c.named.ensures (omega arith))
    ∙ sym (spared_owes _ _ _ (sym c.owes.ensures ∙ c.if-not-owes.false))
