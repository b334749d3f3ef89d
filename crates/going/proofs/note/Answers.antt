-- `going::note` meets its contract: the numbers that are written are those of the route.
-- Assumes nothing.
use Rattle.retreat.proofs.Leaving.{noted}
use Rattle.going.proofs.note.Goals as goal

pub returns : goal.returns
returns c =
    let s = c.args in
    noted s.p.now s.h s.route.now c.routes-r.ensures.is c.hex_at.ensures.is
    c.hex_at-2.ensures.is
    c.hex_at-3.ensures.is
    c.set_route.ensures
