-- `plot::chain::longer` meets its contract.
-- Assumes nothing.
use mathlib.Core.Path.{refl}
use Rattle.plot.proofs.Trails.{longer_is, longer_ok}
use Rattle.plot.proofs.chain.longer.Goals as goal

pub returns : goal.returns
returns c = let p = c.requires in (longer_is _ _ _ _ p.0 p.1 p.2 refl, longer_ok _ _ _ _ p.0 p.1 p.2 refl)
