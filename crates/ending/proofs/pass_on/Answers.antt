-- `ending::pass_on` makes all changes of the end of a phase: the marks, the clock and supply, and clears the scratch.
-- Assumes nothing.
use mathlib.Core.Path.{ap, ◌∙◌}
use native.Mathlib.Omega.{arith}
use Rattle.position.specs.Layout.{hexes}
use Rattle.position.proofs.Changes.{laid_make, laid_makes}
use Rattle.position.proofs.Cells.{all_clear}
use Rattle.clock.specs.Clock.{next_clock}
use Rattle.march.proofs.Ends.{next_bytes, all_ended}
use Rattle.ending.proofs.pass_on.Goals as goal

pub set_clock-requires : goal.set_clock-requires
set_clock-requires c =
    let e = (c.moved_on-next.ensures ∙ ap next_clock c.clock_of-now.ensures.is) in
    let k = next_bytes c.requires.1.lawful in
    (laid_makes _ c.requires.0 c.rest_all.ensures, rw e k.turn, rw e k.force, rw e k.phase)

pub enter-requires : goal.enter-requires
enter-requires c =
    (rw c.set_clock.ensures (laid_make (laid_makes _ c.requires.0 c.rest_all.ensures) _), omega (arith, c.requires.2))

pub returns : goal.returns
returns c =
    let g = c.enter in
    let v = c.requires.0.view in
    record {
      made = all_ended c.requires.1 v.count (c.moved_on-next.ensures ∙ ap next_clock c.clock_of-now.ensures.is) c.rest_all.ensures c.set_clock.ensures g.ensures;
      clear = all_clear g.new.scratch (hexes c.args.p.now) c.clear.ensures (omega (arith, c.requires.2, v.hexes));
    }
