-- `plot::chain::own` meets its contract.
-- Assumes nothing.
use mathlib.Core.Path.{refl}
use Rattle.plot.proofs.Trails.{own_trail, own_ok}
use Rattle.plot.proofs.chain.own.Goals as goal

pub returns : goal.returns
returns c = (own_trail _ _ c.requires refl, own_ok _ _ c.requires refl)
