-- Beside what is certain: vocabulary of contracts and proofs.
-- How `check` asks for the lines on units in time that grows with their number: each unit alone, then the stacks, then the roles.
-- Together these are `UnitsOk` (proofs/Asking.antt).
-- Assumes nothing.
use Rattle.std.specs.Prelude.{ℕ, ◌≤◌, ◌<◌, ◌≡◌, true}
use Rattle.position.specs.Role as Role
use Rattle.position.specs.Board.{Board, nowhere, force_of}
use Rattle.position.specs.Ground.{standable}
use Rattle.position.specs.Crowd.{crowd}
use Rattle.acceptance.specs.Accepted.{DestroyedOk, CounterOk, DutyOk}

-- on the map or in the box, whichever the unit's hex says, without its company
pub record GroundOk (b : Board) (u : ℕ) : Type 0 where
  pub destroyed : b.units.state.hex u ≡ nowhere → DestroyedOk b u
  pub stands : (b.units.state.hex u ≡ nowhere → ⊥) → standable b (b.units.state.hex u) ≡ true

-- one unit, whoever stands with it
pub record AloneOk (b : Board) (u : ℕ) : Type 0 where
  pub counter : CounterOk b u
  pub duty : DutyOk b u
  pub ground : GroundOk b u

-- "at most three in a hex, of one force": the company of unit u
pub record StackOk (b : Board) (u : ℕ) : Type 0 where
  pub room : crowd b (b.units.state.hex u) ≤ 3
  pub one : (w : ℕ) → w < b.units.count → b.units.state.hex w ≡ b.units.state.hex u → force_of b w ≡ force_of b u

-- the stacks on the hexes from `low` to below `high`
abbrev pub StacksIn : Board → ℕ → ℕ → Type 0
StacksIn b low high = (u : ℕ) → u < b.units.count → low ≤ b.units.state.hex u → b.units.state.hex u < high → StackOk b u

-- the stacks on the hexes of the map
abbrev pub StacksOk : Board → Type 0
StacksOk b = StacksIn b 0 b.map.hexes

-- the units of role r are of one force
abbrev pub OneForce : Board → ℕ → Type 0
OneForce b r =
    (u : ℕ) → u < b.units.count → (w : ℕ) → w < b.units.count → b.units.state.role u ≡ r → b.units.state.role w ≡ r → force_of b w ≡ force_of b u

-- no unit of role 1 is of the force of one of role 2
abbrev pub RolesApart : Board → Type 0
RolesApart b =
    (u : ℕ) → u < b.units.count → (w : ℕ) → w < b.units.count → b.units.state.role u ≡ Role.owes → b.units.state.role w ≡ Role.advances → force_of b w ≡ force_of b u → ⊥

-- "Role 1 units are of one force, role 2 units of one, not the same."
pub record RolesOk (b : Board) : Type 0 where
  pub owing : OneForce b Role.owes
  pub advancing : OneForce b Role.advances
  pub apart : RolesApart b
