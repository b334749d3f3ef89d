-- Who takes part in a battle.
-- Assumes nothing.
use Rattle.std.specs.Prelude.{ℕ, List, ◌++◌}
use Rattle.position.specs.Board.{Board}
use Rattle.field.specs.Scene.{scene}
use Rattle.field.specs.Zone.{stands_on}
use Rattle.field.specs.Listed.{sieve}

-- the units in the target hex, in counter order
unfoldable pub defenders : Board → ℕ → List ℕ
defenders b target = sieve (stands_on (scene b) target) b.units.count

-- "All participants": the list, then every unit in the target hex
unfoldable pub participants : Board → ℕ → List ℕ → List ℕ
participants b target units = units ++ defenders b target
