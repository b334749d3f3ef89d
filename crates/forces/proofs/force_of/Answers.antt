-- `forces::force_of` meets its contract.
-- Assumes nothing.
use mathlib.Core.Path.{ap, ◌∙◌}
use Rattle.position.specs.Kind.{force}
use Rattle.position.specs.Board.{force_of}
use Rattle.forces.proofs.force_of.Goals as goal

pub returns : goal.returns
unfolding force_of
returns c = c.force.ensures ∙ ap force c.nationality.ensures.is
