-- The lines on stages, one stage at a time.
-- Assumes nothing.
use mathlib.Core.Path.{◌≡◌}
use native.Mathlib.Omega.{arith}
use Rattle.position.specs.Board.{Board}
use Rattle.position.specs.Stage as Stage
use Rattle.acceptance.specs.Accepted.{QuietOk, RetreatsOk, AdvancesOk, StageOk}

module _ {b : Board} where
  pub stage_quiet : b.desk.battle.stage ≡ Stage.quiet → b.desk.battle.owed ≡ 0 → b.desk.battle.need ≡ 0 → QuietOk b → StageOk b
  stage_quiet e n x o =
      record {
        during =
            record {
              quiet = λ _. o;
              retreats = λ f. absurd (omega arith);
              losses = λ f. absurd (omega arith);
              advances = λ f. absurd (omega arith);
            };
        owed = λ _. n;
        need = λ _. x;
      }

  pub stage_retreats : b.desk.battle.stage ≡ Stage.retreats → b.desk.battle.need ≡ 0 → RetreatsOk b → StageOk b
  stage_retreats e x o =
      record {
        during =
            record {
              quiet = λ f. absurd (omega arith);
              retreats = λ _. o;
              losses = λ f. absurd (omega arith);
              advances = λ f. absurd (omega arith);
            };
        owed = λ n. absurd (n e);
        need = λ _. x;
      }

  pub stage_advances : b.desk.battle.stage ≡ Stage.advances → b.desk.battle.owed ≡ 0 → b.desk.battle.need ≡ 0 → AdvancesOk b → StageOk b
  stage_advances e n x o =
      record {
        during =
            record {
              quiet = λ f. absurd (omega arith);
              retreats = λ f. absurd (omega arith);
              losses = λ f. absurd (omega arith);
              advances = λ _. o;
            };
        owed = λ _. n;
        need = λ _. x;
      }
