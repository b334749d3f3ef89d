-- `zone::related_on` meets its contract: the unit stands there and its force is in the relation, or it does not stand there.
-- Assumes nothing.
use mathlib.Core.Path.{sym, ap, ◌∙◌}
use native.Mathlib.Omega.{arith}
use borrow.Author.Tests.{ne_eqb}
use Rattle.position.specs.Board.{board, relates}
use Rattle.field.proofs.Zones.{related_here, related_off}
use Rattle.field.proofs.zone.related_on.Goals as goal

pub returns-then-hex-h : goal.returns-then-hex-h
returns-then-hex-h c =
    let a = c.args in
    let b = board a.p.now in
    c.related.ensures ∙ ap (relates b a.w a.f) c.force_of.ensures ∙ sym (related_here b a.w _ _ _ (omega arith))

pub returns-else-hex-h : goal.returns-else-hex-h
returns-else-hex-h c = ne_eqb _ _ c.if-hex-h.false ∙ sym (related_off _ _ _ _ c.args.w (λ e. c.if-hex-h.false (omega arith)))
