-- `losses::spared_special` meets its contract: whether the unit is spared is asked first, then its type.
-- Assumes nothing.
use Prim.Native.Nat.{ℕ}
use mathlib.Core.Path.{ap, sym, ◌∙◌}
use lib.Dec.{eqb}
use Rattle.aftermath.proofs.Losing.{special_not, special_spared}
use Rattle.losses.proofs.spared_special.Goals as goal

pub returns-then-not-spared : goal.returns-then-not-spared
returns-then-not-spared c = sym (special_not _ _ _ (sym c.spared.ensures ∙ c.if-not-spared.true))

pub returns : goal.returns
returns c =
    ap (λ (k : ℕ). eqb k 4) c.kind.ensures.is
    ∙ sym (special_spared _ _ _ (sym c.spared.ensures ∙ c.if-not-spared.false))
