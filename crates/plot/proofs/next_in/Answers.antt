use Rattle.plot.proofs.Plots.{next_open, next_shut}
use Rattle.position.specs.Bits.{has}
use mathlib.Core.Path.{sym, ap₂, ◌∙◌}
use Rattle.plot.proofs.next_in.Goals as goal

pub returns-then-has : goal.returns-then-has
returns-then-has c = c.neighbour.ensures ∙ sym (next_open _ _ _ (ap₂ has (sym c.side_bit.ensures.0) (sym c.wide.ensures.is) ∙ sym c.has.ensures ∙ c.if-has.true))

pub returns : goal.returns
returns c = sym (next_shut _ _ _ (ap₂ has (sym c.side_bit.ensures.0) (sym c.wide.ensures.is) ∙ sym c.has.ensures ∙ c.if-has.false))
