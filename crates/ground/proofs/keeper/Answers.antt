-- `ground::keeper` meets its contract: the hex keeps its first three sides, the neighbour the others.
-- Assumes nothing.
use borrow.Author.Tests.{lt-ltb, le-ltb}
use native.Mathlib.Omega.{arith}
use Rattle.ground.proofs.keeper.Goals as goal

pub returns-then-d-lt3 : goal.returns-then-d-lt3
returns-then-d-lt3 c = simp (lt-ltb c.args.d 3 (omega arith))

pub returns : goal.returns
returns c = simp (le-ltb c.args.d 3 (omega arith))
