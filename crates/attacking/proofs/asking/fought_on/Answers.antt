-- `asking::fought_on` meets its contract: where the unit stands is asked first, then the mark.
-- Assumes nothing.
use mathlib.Core.Path.{◌∙◌, ap, sym}
use Rattle.position.specs.Bits.{fought, has}
use Rattle.battle.proofs.Asks.{fought_here, fought_off}
use Rattle.attacking.proofs.asking.fought_on.Goals as goal

pub returns-then-hex-h : goal.returns-then-hex-h
returns-then-hex-h c = c.has.ensures ∙ ap (has fought) c.marks.ensures.is ∙ sym (fought_here _ _ _ (sym c.hex.ensures.is ∙ c.if-hex-h.true))

pub returns : goal.returns
returns c = sym (fought_off _ _ _ (λ e. c.if-hex-h.false (c.hex.ensures.is ∙ e)))
