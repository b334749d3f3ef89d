-- `losses::destroy_all` meets its contract. The loop's invariant: the units passed are destroyed.
-- Assumes nothing.
use Rattle.field.proofs.Making.{Making}
use Rattle.position.specs.Change.Change.{destroyed}
use Rattle.losses.proofs.destroy_all.Given as goal

abbrev pub invariant-loop-u : goal.invariant-loop-u
invariant-loop-u l = Making destroyed l.initial.p l.v l.units l.u-index l.p
