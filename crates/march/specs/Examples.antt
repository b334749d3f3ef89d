-- Beside what is certain: examples.
-- Refusals 8 and 18, computed: a step onto a hex that another force holds.
-- Assumes nothing.
use Rattle.std.specs.Prelude.{◌≡◌, refl, [], ◌∷◌}
use Rattle.position.specs.Kind.{moves_by_land}
use Rattle.position.specs.Board.{board, neutral}
use Rattle.acceptance.specs.Examples.{computing, landed, landed_together}
use Rattle.ruling.specs.Verdict.{outcome, along}
use Rattle.ruling.specs.Verdict.Ruling.{refused}
use Rattle.field.specs.Listed.{off_map, on_map_all, on_map_from}
use Rattle.field.specs.Phasing.{not_phasing}
use Rattle.field.specs.Zone.{neutral_on, holds_neutral}
use Rattle.supply.specs.Examples.{supplying}
use Rattle.march.specs.Move.{
  path_length,
  may_move_now,
  moves_in,
  forbidden,
  after_step,
  allowed,
  leaves_zone,
  no_step,
  step,
  steps,
  move_checks,
  arrival,
  move_rule,
}

-- the S.A.U. goes from hex 0 to hex 1, where the E.S.C. stands: an Enemy, and in the two-player game a neutral
pub there :
    (outcome landed [] (move_rule (board landed) 0 (1 ∷ []))).answer
    ∷ (outcome landed_together [] (move_rule (board landed_together) 0 (1 ∷ []))).answer
    ∷ []
    ≡ refused 8 1 ∷ refused 18 1 ∷ []
unfolding computing supplying moves_by_land outcome along off_map on_map_all on_map_from not_phasing neutral neutral_on holds_neutral path_length may_move_now moves_in forbidden after_step allowed leaves_zone no_step step steps move_checks arrival move_rule
there = refl
