-- `write::mark` makes its change: the face is taken from the marks that stood there.
-- Assumes nothing.
use Prim.Native.Nat.{ℕ, ◌+◌, ◌*◌, ◌/◌, ◌%◌}
use mathlib.Core.Path.{ap, ◌∙◌}
use Rattle.position.specs.Bits.{faced}
use Rattle.position.specs.Layout.{marks_field, set_unit, set_marks}
use Rattle.position.specs.Change.{make}
use Rattle.write.proofs.mark.Goals as goal

pub returns : goal.returns
unfolding make set_marks faced
returns c = c.set_unit.ensures ∙ ap (λ (x : ℕ). set_unit c.args.p.now c.args.u marks_field (c.args.m / 2 * 2 + x % 2)) c.marks-old.ensures.is
