-- `walk` meets its contract: the marks of the hexes that were reached are settled.
-- Assumes nothing.
use Rattle.walk.proofs.Runs.{reached}
use Rattle.walking.proofs.walk.Goals as goal

pub returns : goal.returns
returns c = reached c.reach.ensures c.settle.ensures
