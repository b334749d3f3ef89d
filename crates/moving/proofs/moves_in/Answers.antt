-- `moving::moves_in` meets its contract: a type that moves by land, and in phase 2 one that moves then.
-- Assumes nothing.
use mathlib.Core.Path.{sym, ◌∙◌}
use Rattle.position.proofs.Answers.{holds}
use Rattle.march.proofs.Moves.{moves_not, moves_second, moves_other}
use Rattle.moving.proofs.moves_in.Goals as goal

pub returns-then-not-moves_by_land : goal.returns-then-not-moves_by_land
returns-then-not-moves_by_land c = sym (moves_not _ _ (sym c.moves_by_land.ensures ∙ c.if-not-moves_by_land.true))

pub returns-then-phase-eq-MECHANISED : goal.returns-then-phase-eq-MECHANISED
returns-then-phase-eq-MECHANISED c =
    c.moves_in_phase_2.ensures ∙ sym (moves_second _ _ (holds c.moves_by_land.ensures c.if-not-moves_by_land.false) c.if-phase-eq-MECHANISED.true)

pub returns : goal.returns
returns c = sym (moves_other _ _ (holds c.moves_by_land.ensures c.if-not-moves_by_land.false) c.if-phase-eq-MECHANISED.false)
