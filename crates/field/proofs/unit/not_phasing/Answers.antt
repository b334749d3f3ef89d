-- `unit::not_phasing` meets its contract: a destroyed unit, or one of another force.
-- Assumes nothing.
use Prim.Native.Nat.{ℕ}
use mathlib.Core.Path.{sym, ap₂, ◌∙◌}
use mathlib.Core.Bool.{not}
use lib.Dec.{eqb}
use Rattle.field.proofs.Workings.{phasing_destroyed, phasing_mapped}
use Rattle.field.proofs.unit.not_phasing.Goals as goal

pub returns-then-hex-eq-NOWHERE : goal.returns-then-hex-eq-NOWHERE
returns-then-hex-eq-NOWHERE c = sym (phasing_destroyed _ _ (sym c.hex.ensures.is ∙ c.if-hex-eq-NOWHERE.true))

pub returns : goal.returns
returns c =
    ap₂ (λ (f g : ℕ). not (eqb f g)) c.force_of.ensures c.phasing.ensures.is
    ∙ sym (phasing_mapped _ _ (λ e. c.if-hex-eq-NOWHERE.false (c.hex.ensures.is ∙ e)))
