-- `bits::has` meets its contract.
-- Assumes nothing.
use mathlib.Core.Path.{refl}
use Rattle.position.specs.Bits.{has}
use Rattle.position.proofs.bits.has.Goals as goal

pub returns : goal.returns
unfolding has
returns c = refl
