-- `ending::judge_force` judges a force's units: two nationalities one after the other for force 3, else one.
-- Assumes nothing.
use Rattle.march.proofs.Ends.{judges_one}
use Rattle.ending.proofs.judge_force.Goals as goal

pub returns : goal.returns
returns c = judges_one _ c.requires.0.view.count c.if-f-eq-HOME.false c.judge_all.ensures.1
