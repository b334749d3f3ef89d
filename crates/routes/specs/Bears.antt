-- Where a retreating group may go.
-- Assumes nothing.
use Rattle.std.specs.Prelude.{ℕ, Bool, not, ◌&&◌}
use Rattle.position.specs.Board.{Board}
use Rattle.position.specs.Ground.{standable}
use Rattle.field.specs.Scene.{scene}
use Rattle.field.specs.Zone.{vacant, enemy_zone}

-- ".. unprohibited land or coast outside Enemy zones": hex h bears a stack of force f, whoever stands there; friends lift no zone
unfoldable pub bears : Board → ℕ → ℕ → Bool
bears b f h = standable b h && not (enemy_zone (scene b) f h)

-- "into vacant unprohibited land or coast outside Enemy zones"
unfoldable pub refuge : Board → ℕ → ℕ → Bool
refuge b f h = vacant (scene b) h && bears b f h
