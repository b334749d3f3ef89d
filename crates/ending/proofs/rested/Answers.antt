-- `ending::rested` is the marks without fought and then without moved, and stays a byte.
-- Assumes nothing.
use mathlib.Core.Path.{ap, ◌∙◌}
use native.Mathlib.Omega.{arith}
use Rattle.position.specs.Bits.{without, moved}
use Rattle.march.specs.EndPhase.{rested}
use Rattle.march.proofs.Ends.{rested_byte}
use Rattle.ending.proofs.rested.Goals as goal

pub without-requires-2 : goal.without-requires-2
unfolding without
without-requires-2 c = (omega arith, omega arith, omega (arith, c.without.ensures))

pub returns : goal.returns
unfolding rested
returns c =
    let e = c.without-2.ensures ∙ ap (without moved) c.without.ensures in
    record { is = e; small = rw e (rested_byte c.args.m c.requires) }
