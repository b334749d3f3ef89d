-- `clear::move_one` meets its contract: a unit that does not stand there is left alone, one that does goes.
-- Assumes nothing.
use mathlib.Core.Path.{sym, ◌∙◌}
use Rattle.field.proofs.Zones.{stands_here, stands_off}
use Rattle.shoves.proofs.Turns.{dealt_with, left_alone, shifts_there}
use Rattle.shoves.proofs.clear.move_one.Goals as goal

pub returns-then-hex-h : goal.returns-then-hex-h
returns-then-hex-h c = left_alone _ _ _ (stands_off _ _ _ (λ e. c.if-hex-h.true (c.hex.ensures.is ∙ e)))

pub returns : goal.returns
returns c =
    dealt_with _ _ _ (stands_here _ _ _ (sym c.hex.ensures.is ∙ c.if-hex-h.false)) (shifts_there _ _ _ c.place.ensures)
