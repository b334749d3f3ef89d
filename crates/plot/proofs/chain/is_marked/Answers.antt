-- `chain::is_marked` meets its contract.
-- Assumes nothing.
use Rattle.plot.proofs.Marking.{mark_read}
use Rattle.plot.proofs.chain.is_marked.Goals as goal

pub returns : goal.returns
returns c =
    let a = c.args in
    mark_read a.k a.ends.now c.bit.result c.wide.result c.has.result
    c.has.ensures c.bit.ensures.0 c.wide.ensures.is
