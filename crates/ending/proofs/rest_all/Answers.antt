-- `ending::rest_all` rests every unit. The loop's invariant: the units below u are rested.
-- Assumes nothing.
use mathlib.Core.Path.{refl}
use Rattle.position.specs.Change.{makes}
use Rattle.position.proofs.Changes.{laid_make}
use Rattle.march.specs.EndPhase.{rest_all}
use Rattle.march.proofs.Ends.{rests_next}
use Rattle.ending.proofs.rest_all.Goals as goal

pub loop-u-init : goal.loop-u-init
unfolding rest_all makes
loop-u-init c = (refl, c.requires)

pub loop-u-preserved : goal.loop-u-preserved
loop-u-preserved c = (
  rests_next _ c.requires.shaped c.loop-u.invariant.0 c.marks-m.ensures.is c.rested.ensures.is c.mark.ensures,
  rw c.mark.ensures (laid_make c.loop-u.invariant.1 _),
)
