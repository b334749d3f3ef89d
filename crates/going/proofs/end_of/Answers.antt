-- `going::end_of` meets its contract: the last hex is the one that is owed.
-- Assumes nothing.
use Rattle.position.specs.Board.{board}
use Rattle.retreat.proofs.Leaving.{ends}
use Rattle.going.proofs.end_of.Goals as goal

pub returns : goal.returns
returns c =
    let s = c.args in
    ends (board s.p.now) s.route.now c.owed.ensures.is c.hex_at.ensures.is
