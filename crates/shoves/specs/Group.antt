-- The units that go together, and what is done to one of them after another.
-- Assumes nothing.
use Rattle.std.specs.Prelude.{ℕ, List, [], ◌∷◌, ◌++◌, get_or}
use Rattle.position.specs.Board.{Board, force_of}
use Rattle.position.specs.Crowd.{owes_at}
use Rattle.position.specs.Change.{Change}
use Rattle.field.specs.Listed.{sieve}
use Rattle.field.specs.Scene.{scene}
use Rattle.field.specs.Zone.{stands_on}

-- "Its role 1 units go together": the units that owe in hex h, in counter order
unfoldable pub group : Board → ℕ → List ℕ
group b h = sieve (owes_at b h) b.units.count

-- the force that owes there
unfoldable pub group_force : Board → ℕ → ℕ
group_force b h = force_of b (get_or (group b h) 0 0)

-- "A stack is all units of the force in a hex": those that stand on hex h
unfoldable pub stack : Board → ℕ → List ℕ
stack b h = sieve (stands_on (scene b) h) b.units.count

-- the changes g of each unit, one unit after another
unfoldable pub gather : (ℕ → List Change) → List ℕ → List Change
gather g [] = []
gather g (u ∷ us) = g u ++ gather g us
