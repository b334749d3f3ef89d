-- How a battle's stages pass on: one definition for every call that ends one.
-- Assumes nothing.
use Rattle.std.specs.Prelude.{ℕ, cond, List, [], ◌∷◌, ◌++◌, map, eqb}
use Rattle.position.specs.Role as Role
use Rattle.position.specs.Stage as Stage
use Rattle.position.specs.Board.{Board}
use Rattle.position.specs.Crowd.{holders}
use Rattle.position.specs.Change.{Change}
use Rattle.position.specs.Change.Change.{assigned, staged, unrouted}
use Rattle.position.specs.Effect.{changes}
use Rattle.field.specs.Listed.{sieve}

-- every unit with one role gets another
unfoldable pub reassigned : Board → ℕ → ℕ → List Change
reassigned b from to = map (λ u. assigned u to) (sieve (λ u. eqb (b.units.state.role u) from) b.units.count)

-- "When no role 1 is left in stage 1 or 2, stage 3 follows, n and need 0. Stage 3 closed, or at any moment without role 2, becomes 0
-- with routes cleared."
unfoldable pub passes_on : Board → List Change
passes_on b = cond (eqb (holders b Role.owes) 0) (cond (eqb (holders b Role.advances) 0) (staged Stage.quiet 0 0 ∷ unrouted ∷ []) (staged Stage.advances 0 0 ∷ [])) []

-- what a call changes, and the stage that follows from it
unfoldable pub then_on : Board → List Change → List Change
then_on b xs = xs ++ passes_on (changes b xs)
