-- `plot::chain::on_trail` meets its contract.
-- Assumes nothing.
use mathlib.Core.Path.{sym}
use Rattle.plot.proofs.Trails.{on_first, on_second, on_third}
use Rattle.plot.proofs.chain.on_trail.Goals as goal

pub returns-then-t-z : goal.returns-then-t-z
returns-then-t-z c = sym (on_first _ _ c.requires c.if-t-z.true)

pub returns-then-t-z-2 : goal.returns-then-t-z-2
returns-then-t-z-2 c = sym (on_second _ _ c.requires c.if-t-z.false c.if-t-z-2.true)

pub returns : goal.returns
returns c = sym (on_third _ _ c.requires c.if-t-z.false c.if-t-z-2.false)
