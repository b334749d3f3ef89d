-- `read::shown` meets its contract: a unit that is tried shows its strength, another nothing.
-- Assumes nothing.
use mathlib.Core.Path.{sym, ap, ◌∙◌}
use native.Mathlib.Omega.{arith}
use Rattle.position.specs.Bits.{has, tried}
use Rattle.position.proofs.Effects.{shown_is, shown_not}
use Rattle.position.proofs.read.shown.Goals as goal

pub returns-then-has : goal.returns-then-has
returns-then-has c =
    record {
      is = c.strength.ensures.is ∙ sym (shown_is _ _ (sym (c.has.ensures ∙ ap (has tried) c.marks.ensures.is) ∙ c.if-has.true));
      small = c.strength.ensures.small;
    }

pub returns : goal.returns
returns c = record { is = sym (shown_not _ _ (sym (c.has.ensures ∙ ap (has tried) c.marks.ensures.is) ∙ c.if-has.false)); small = omega arith }
