-- `ending::judge_home` judges the units of US and Canada: what is traced for the US stays so while its units are marked, and then tells what is open for
-- Canada.
-- Assumes nothing.
use mathlib.Core.Path.{refl}
use Rattle.march.proofs.Ends.{judges_two}
use Rattle.ending.proofs.judge_home.Goals as goal

pub returns : goal.returns
returns c = let l = c.requires.0 in judges_two _ l.view.count l.shaped refl c.judge_all.ensures.1 c.judge_all-2.ensures.1
