-- `pass_up` meets its contract: what was swept in the row, or nothing.
-- Assumes nothing.
use mathlib.Core.Path.{◌∙◌}
use Rattle.position.proofs.Sides.{area_view}
use Rattle.walk.proofs.Joins.{map_on, swept_none}
use Rattle.sweeping.proofs.pass_up.Goals as goal

pub has-requires : goal.has-requires
has-requires c = (map_on c.requires.0, c.requires.1 ∙ area_view c.requires.0.view, c.requires.2)

pub returns-then-not-has : goal.returns-then-not-has
returns-then-not-has c = swept_none _
