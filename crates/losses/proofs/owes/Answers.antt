-- `losses::owes` meets its contract: the role is asked.
-- Assumes nothing.
use Prim.Native.Nat.{ℕ}
use mathlib.Core.Path.{ap}
use lib.Dec.{eqb}
use Rattle.position.specs.Role as Role
use Rattle.aftermath.specs.Losses.{owes}
use Rattle.losses.proofs.owes.Goals as goal

pub returns : goal.returns
unfolding owes
returns c = ap (λ (k : ℕ). eqb k Role.owes) c.role.ensures.is
