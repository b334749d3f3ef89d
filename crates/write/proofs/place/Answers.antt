-- `write::place` makes its change, or none where there is no such hex.
-- Assumes nothing.
use mathlib.Core.Path.{sym, ◌∙◌}
use native.Mathlib.Omega.{arith}
use Rattle.position.proofs.Laying.{placed_in, placed_out}
use Rattle.write.proofs.place.Goals as goal

pub returns-then-h-hexes : goal.returns-then-h-hexes
returns-then-h-hexes c = c.set_hex.ensures ∙ sym (placed_in c.args.p.now c.args.u c.args.h (omega (arith, c.requires.view.hexes)))

pub returns-else-h-hexes : goal.returns-else-h-hexes
returns-else-h-hexes c = sym (placed_out c.args.p.now c.args.u c.args.h (omega (arith, c.requires.view.hexes)))
