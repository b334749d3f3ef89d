-- `ground::side` meets its contract: the hex keeps the side, or the neighbour, or there is none.
-- Assumes nothing.
use mathlib.Core.Path.{sym, ◌∙◌}
use native.Mathlib.Omega.{arith}
use Rattle.position.specs.Board.{ground}
use Rattle.position.proofs.Sides.{beside_view, side_own, side_beyond, side_edge}
use Rattle.ground.proofs.side.Goals as goal

pub returns-then-d-lt3 : goal.returns-then-d-lt3
returns-then-d-lt3 c =
    record { is = c.stored.ensures.is ∙ sym (side_own _ _ _ c.if-d-lt3.true); small = c.stored.ensures.small }

pub returns-in_default : goal.returns-in_default
returns-in_default c =
    let e = c.neighbour.ensures ∙ beside_view c.requires.0.view c.args.h c.args.d in
    let o = sym e ∙ c.in_default.is in
    record { is = sym (side_edge (ground c.args.p.now) c.args.h c.args.d (omega arith) o); small = omega arith }

pub returns : goal.returns
returns c =
    let e = c.neighbour.ensures ∙ beside_view c.requires.0.view c.args.h c.args.d in
    let o = sym e ∙ c.in-Some.is in
    record {
      is = c.stored-2.ensures.is ∙ sym (side_beyond (ground c.args.p.now) c.args.h c.args.d _ (omega arith) o);
      small = c.stored-2.ensures.small;
    }
