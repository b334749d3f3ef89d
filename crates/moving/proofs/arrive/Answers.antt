-- `moving::arrive` meets its contract: refusal 11 by the count of the others, and else both writes are the move's changes.
-- Assumes nothing.
use mathlib.Core.Path.{ap, ◌∙◌}
use native.Mathlib.Omega.{arith}
use borrow.Author.Tests.{le-leb, lt-leb}
use Rattle.position.specs.Bits.{with, moved}
use Rattle.position.specs.Board.{board}
use Rattle.position.specs.Crowd.{others}
use Rattle.position.specs.Change.Change.{placed}
use Rattle.position.proofs.Changes.{laid_make}
use Rattle.ruling.proofs.Meets.{pass, stop, ruled}
use Rattle.march.specs.Move.{arrival}
use Rattle.march.proofs.Moves.{moved_small, both_made}
use Rattle.moving.proofs.arrive.Goals as goal

pub returns-then-others-ge-FULL : goal.returns-then-others-ge-FULL
unfolding arrival
returns-then-others-ge-FULL c =
    let a = c.args in
    stop (le-leb 3 (others (board a.p.now) a.u a.h) (omega (arith, c.if-others-ge-FULL.true, c.others.ensures.is)))

pub mark-requires : goal.mark-requires
mark-requires c = (
  rw c.place.ensures (laid_make c.requires (placed c.args.u c.args.h)),
  rw c.with.ensures (moved_small _ c.marks-marks.ensures.small),
)

pub returns : goal.returns
unfolding arrival
returns c =
    let a = c.args in
    let p = a.p.now in
    pass (lt-leb 3 (others (board p) a.u a.h) (omega (arith, c.if-others-ge-FULL.false, c.others.ensures.is)))
    (ruled
    (both_made p c.place.new.p _ a.u a.h c.with.result (c.with.ensures ∙ ap (with moved) c.marks-marks.ensures.is) c.place.ensures
    c.mark.ensures))
