-- What a retreating group finds in a hex: a vacant one, a stack that can be pushed, or neither.
-- Assumes nothing.
use Rattle.std.specs.Prelude.{ℕ, Bool, true, false, not, cond, ◌&&◌, ◌||◌, eqb}
use Rattle.position.specs.Role as Role
use Rattle.position.specs.Tally.{any}
use Rattle.position.specs.Kind.{supply_kind}
use Rattle.position.specs.Board.{Board, force_of}
use Rattle.position.specs.Crowd.{owes_at}
use Rattle.field.specs.Scene.{scene}
use Rattle.field.specs.Zone.{stands_on}
use Rattle.routes.specs.Bears.{bears}
use Rattle.chains.specs.declared.Stand.{Stand}
use Rattle.chains.specs.declared.Stand.TheVariants.{Shut, Free, Loose}

-- unit u stands on hex h and is not of the group, which is all that owe in hex a: the group leaves, so it is looked past
unfoldable pub apart : Board → ℕ → ℕ → ℕ → Bool
apart b a h u = stands_on (scene b) h u && not (owes_at b a u)

-- "A stack with a supply unit, or with a unit that still owes, can't be pushed", nor can one of another force
unfoldable pub firm : Board → ℕ → ℕ → Bool
firm b f u = not (eqb (force_of b u) f) || (eqb (b.units.counter.kind u) supply_kind || eqb (b.units.state.role u) Role.owes)

-- unit u holds hex h against every push by a group of force f in hex a
unfoldable pub bars : Board → ℕ → ℕ → ℕ → ℕ → Bool
bars b f a h u = apart b a h u && firm b f u

-- what hex h is to the group of force f in hex a, and to the stacks that it pushes: "into a hex that bears", and there vacant, held by a
-- stack that can be pushed, or held by one that can't
unfoldable pub stand : Board → ℕ → ℕ → ℕ → Stand
stand b f a h =
    cond (bears b f h)
    (cond (any (apart b a h) b.units.count) (cond (any (bars b f a h) b.units.count) Shut Loose) Free)
    Shut

abbrev pub is_free : Stand → Bool
is_free Shut = false
is_free Free = true
is_free Loose = false

abbrev pub is_loose : Stand → Bool
is_loose Shut = false
is_loose Free = false
is_loose Loose = true
