-- `write::turn_over` turns the unit over.
-- Assumes nothing.
use mathlib.Core.Path.{ap, ◌∙◌}
use native.Mathlib.Omega.{arith}
use Rattle.position.specs.Bits.{with}
use Rattle.position.specs.Layout.{marks_field, set_unit, set_marks}
use Rattle.position.specs.Change.{turned}
use Rattle.position.proofs.Laying.{with_small}
use Rattle.write.proofs.turn_over.Goals as goal

pub set_unit-requires : goal.set_unit-requires
set_unit-requires c = (c.requires, omega arith, rw c.with.ensures (with_small _ c.marks-old.ensures.small))

pub returns : goal.returns
unfolding turned set_marks
returns c = c.set_unit.ensures ∙ ap (set_unit c.args.p.now c.args.u marks_field) (c.with.ensures ∙ ap (with 1) c.marks-old.ensures.is)
