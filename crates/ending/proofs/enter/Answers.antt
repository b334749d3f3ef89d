-- `ending::enter` judges supply exactly if the phase asks for it.
-- Assumes nothing.
use mathlib.Core.Path.{sym, ◌∙◌}
use Rattle.march.proofs.Ends.{judges_not, judges_then}
use Rattle.ending.proofs.enter.Goals as goal

pub returns-then-not-judges_supply : goal.returns-then-not-judges_supply
returns-then-not-judges_supply c = judges_not (sym c.judges_supply.ensures ∙ c.if-not-judges_supply.true)

pub returns : goal.returns
returns c = judges_then (sym c.judges_supply.ensures ∙ c.if-not-judges_supply.false) c.judge_force.ensures
