-- `write::assign` makes its change.
-- Assumes nothing.
use Rattle.position.specs.Layout.{set_role}
use Rattle.position.specs.Change.{make}
use Rattle.write.proofs.assign.Goals as goal

pub returns : goal.returns
unfolding make set_role
returns c = c.set_unit.ensures
