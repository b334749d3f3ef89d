-- `attacking::attack` meets its promise: the questions of an attack, then the battle.
-- Assumes nothing.
use mathlib.Core.Path.{subst}
use Rattle.ruling.specs.Judged.{TestedOf}
use Rattle.battle.specs.Battle.{attack_rule}
use Rattle.attacking.proofs.attack.Goals as goal

pub judge_attack-requires : goal.judge_attack-requires
judge_attack-requires c = c.requires.0

pub returns-in-Err : goal.returns-in-Err
unfolding attack_rule
returns-in-Err c = subst (TestedOf _ _ _) c.in-Err.is c.judge_attack.ensures _ _

pub fight-requires : goal.fight-requires
fight-requires c =
    (c.requires.0, c.requires.1, (subst (TestedOf _ _ _) c.in_default.is c.judge_attack.ensures).1)

pub returns : goal.returns
unfolding attack_rule
returns c =
    (subst (TestedOf _ _ _) c.in_default.is c.judge_attack.ensures).0 _ _ _ _ _ c.fight.ensures
