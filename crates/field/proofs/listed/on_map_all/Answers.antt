-- `listed::on_map_all` meets its contract: its first place is 1.
-- Assumes nothing.
use Rattle.field.specs.Listed.{on_map_all, on_map_from}
use Rattle.field.proofs.listed.on_map_all.Goals as goal

pub returns : goal.returns
unfolding on_map_all on_map_from
returns c = c.on_map_from.ensures
