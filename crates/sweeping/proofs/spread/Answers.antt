-- `spread` meets its contract: what was swept to the east, and then to the west.
-- Assumes nothing.
use mathlib.Core.Path.{◌∙◌}
use Rattle.position.proofs.Sides.{area_view}
use Rattle.walk.proofs.Joins.{map_on, swept_trans}
use Rattle.sweeping.proofs.spread.Goals as goal

pub has-requires : goal.has-requires
has-requires c = (map_on c.requires.0, c.eastward.ensures.same ∙ c.requires.1 ∙ area_view c.requires.0.view, c.requires.2)

pub mostly-requires : goal.mostly-requires
mostly-requires c =
    let w = swept_trans c.eastward.ensures c.westward.ensures in
    (map_on c.requires.0, w.same ∙ c.requires.1 ∙ area_view c.requires.0.view, c.requires.2)

pub returns : goal.returns
returns c = swept_trans c.eastward.ensures c.westward.ensures
