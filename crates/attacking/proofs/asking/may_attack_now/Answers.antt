-- `asking::may_attack_now` meets its contract: the stage is asked first, then the phase.
-- Assumes nothing.
use Prim.Native.Nat.{ℕ}
use mathlib.Core.Path.{◌∙◌, ap, sym}
use lib.Dec.{eqb}
use Rattle.clock.specs.Phase as Phase
use Rattle.battle.proofs.Asks.{attack_late, attack_phase}
use Rattle.attacking.proofs.asking.may_attack_now.Goals as goal

pub returns-then-stage-ne-QUIET : goal.returns-then-stage-ne-QUIET
returns-then-stage-ne-QUIET c = sym (attack_late _ (λ e. c.if-stage-ne-QUIET.true (c.stage.ensures.is ∙ e)))

pub returns : goal.returns
returns c = ap (λ (n : ℕ). eqb n Phase.combat) c.phase.ensures.is ∙ sym (attack_phase _ (sym c.stage.ensures.is ∙ c.if-stage-ne-QUIET.false))
