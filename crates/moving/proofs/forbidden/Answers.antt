-- `moving::forbidden` meets its contract: the type is asked first, then the mark.
-- Assumes nothing.
use mathlib.Core.Path.{sym, ap, ap₂, ◌∙◌}
use Rattle.position.specs.Bits.{has, moved}
use Rattle.position.proofs.Answers.{holds}
use Rattle.march.specs.Move.{moves_in}
use Rattle.march.proofs.Moves.{forbidden_type, forbidden_mark}
use Rattle.moving.proofs.forbidden.Goals as goal

pub returns-then-not-moves_in : goal.returns-then-not-moves_in
returns-then-not-moves_in c = sym (forbidden_type _ _ (sym (c.moves_in.ensures ∙ ap₂ moves_in c.phase.ensures.is c.kind.ensures.is) ∙ c.if-not-moves_in.true))

pub returns : goal.returns
returns c =
    c.has.ensures
    ∙ ap (has moved) c.marks.ensures.is
    ∙ sym (forbidden_mark _ _ (holds (c.moves_in.ensures ∙ ap₂ moves_in c.phase.ensures.is c.kind.ensures.is) c.if-not-moves_in.false))
