-- `Painted::step` meets its contract: a step leads to a hex of the map.
-- Assumes nothing.
use mathlib.Core.Path.{sym, ◌∙◌}
use Rattle.position.proofs.Sides.{next_in_lem}
use Rattle.window.proofs.Painted.step.Goals as goal

pub enters-requires : goal.enters-requires
enters-requires c = (next_in_lem c.args.self.now.laid.view _ _ _ (sym c.next.ensures ∙ c.in_ok-x.was), c.requires.0)
