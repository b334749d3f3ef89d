-- `losses::owes_phasing` meets its contract: whether the unit owes is asked first, then its force.
-- Assumes nothing.
use Prim.Native.Nat.{ℕ}
use mathlib.Core.Path.{ap₂, sym, ◌∙◌}
use lib.Dec.{eqb}
use Rattle.aftermath.proofs.Losing.{phasing_not, phasing_owes}
use Rattle.losses.proofs.owes_phasing.Goals as goal

pub returns-then-not-owes : goal.returns-then-not-owes
returns-then-not-owes c = sym (phasing_not _ _ (sym c.owes.ensures ∙ c.if-not-owes.true))

pub returns : goal.returns
returns c =
    ap₂ (λ (f g : ℕ). eqb f g) c.force_of.ensures c.phasing.ensures.is
    ∙ sym (phasing_owes _ _ (sym c.owes.ensures ∙ c.if-not-owes.false))
