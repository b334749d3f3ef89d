-- `moving::may_move_now` meets its contract: the stage is asked first, then the phase.
-- Assumes nothing.
use Prim.Native.Nat.{ℕ}
use mathlib.Core.Path.{sym, ap, ◌∙◌}
use lib.Dec.{eqb}
use Rattle.march.proofs.Moves.{may_not, may_first, may_later}
use Rattle.moving.proofs.may_move_now.Goals as goal

pub returns-then-stage-ne-QUIET : goal.returns-then-stage-ne-QUIET
returns-then-stage-ne-QUIET c = sym (may_not _ (λ e. c.if-stage-ne-QUIET.true (c.stage.ensures.is ∙ e)))

pub returns-then-phase-eq-LAND : goal.returns-then-phase-eq-LAND
returns-then-phase-eq-LAND c =
    sym (may_first _ (sym c.stage.ensures.is ∙ c.if-stage-ne-QUIET.false) (sym c.phase-phase.ensures.is ∙ c.if-phase-eq-LAND.true))

pub returns : goal.returns
returns c =
    ap (λ (n : ℕ). eqb n 2) c.phase-phase.ensures.is
    ∙ sym (may_later _ (sym c.stage.ensures.is ∙ c.if-stage-ne-QUIET.false) (λ e. c.if-phase-eq-LAND.false (c.phase-phase.ensures.is ∙ e)))
