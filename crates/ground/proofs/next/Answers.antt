-- `ground::next` meets its contract: the neighbour is looked up, and then the side between.
-- Assumes nothing.
use mathlib.Core.Path.{sym, ◌∙◌}
use Rattle.position.proofs.Sides.{beside_view, next_blocked, next_off, next_at}
use Rattle.ground.proofs.next.Goals as goal

pub returns-in_err-n : goal.returns-in_err-n
returns-in_err-n c = rw c.from_residual.ensures
    (next_off c.requires.0.view c.args.h c.args.d (sym c.neighbour.ensures ∙ c.in_err-n.was))

pub between-requires : goal.between-requires
between-requires c =
    let e = sym c.neighbour.ensures ∙ c.in_ok-n.was in
    (c.requires.0, c.requires.1, sym (beside_view c.requires.0.view c.args.h c.args.d) ∙ e)

pub returns-then-between-eq-BLOCKED : goal.returns-then-between-eq-BLOCKED
returns-then-between-eq-BLOCKED c = sym (next_blocked _ _ _ (sym c.between.ensures.is ∙ c.if-between-eq-BLOCKED.true))

pub returns : goal.returns
returns c =
    let e = sym c.neighbour.ensures ∙ c.in_ok-n.was in
    next_at c.requires.0.view c.args.h c.args.d e (λ z. c.if-between-eq-BLOCKED.false (c.between.ensures.is ∙ z))
