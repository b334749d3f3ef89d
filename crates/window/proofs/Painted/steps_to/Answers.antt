-- `Painted::steps_to` meets its contract: a hex that is joined to another is one of the map.
-- Assumes nothing.
use mathlib.Core.Path.{sym, ◌∙◌}
use native.Mathlib.Omega.{arith}
use Rattle.routes.proofs.Steps.{joined_in}
use Rattle.window.proofs.Painted.steps_to.Goals as goal

pub enters-requires : goal.enters-requires
enters-requires c = (joined_in c.args.self.now.laid _ _ (sym c.joined.ensures ∙ c.if-not-joined.false), omega arith)
