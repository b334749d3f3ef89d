-- `ground::joined` meets its contract: hexes are joined exactly if one has a bearing from the other.
-- Assumes nothing.
use mathlib.Core.Path.{◌∙◌}
use Rattle.position.proofs.Bearings.{bearing_joined}
use Rattle.position.proofs.Options.{told}
use Rattle.ground.proofs.joined.Goals as goal

pub returns : goal.returns
returns c = c.is_some.ensures ∙ told _ _ c.bearing.result c.bearing.ensures ∙ bearing_joined _ _ _
