-- `ink::stamp` meets its contract: the mark is set at the hex's place, or the hex has none.
-- Assumes nothing.
use mathlib.Core.Path.{sym, ap, ◌∙◌}
use Rattle.paint.specs.Paint.{inked}
use native.Mathlib.Omega.{arith}
use Rattle.grid.proofs.Regions.{inside_facts, inside_not}
use Rattle.paint.proofs.Adding.{adds_set, adds_outside}
use Rattle.paint.proofs.ink.stamp.Goals as goal

pub place-i-requires : goal.place-i-requires
place-i-requires c =
    (c.requires.0, c.requires.1.region, inside_facts _ _ _ _ (sym c.contains.ensures ∙ c.if-contains.true))

pub returns-then-contains : goal.returns-then-contains
returns-then-contains c =
    let i = inside_facts _ _ _ _ (sym c.contains.ensures ∙ c.if-contains.true) in
    let k = c.place-i.ensures in
    adds_set c.requires.2 i (omega (arith, k.0, k.1, c.requires.1.long)) k.0 (c.inked.ensures.0 ∙ ap (inked c.args.b) c.wide-m.ensures.is)

pub returns-else-contains : goal.returns-else-contains
returns-else-contains c =
    adds_outside c.args.b c.args.s.hex (inside_not _ _ _ _ (sym c.contains.ensures ∙ c.if-contains.false))
