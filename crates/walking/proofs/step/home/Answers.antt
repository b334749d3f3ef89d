-- `home` meets its contract: what is near is the neighbour, and what is no direction leads nowhere.
-- Assumes nothing.
use mathlib.Core.Path.{refl}
use native.Mathlib.Omega.{arith}
use Rattle.walk.proofs.Steps.{beyond}
use Rattle.walking.proofs.step.home.Goals as goal

pub returns-then-dir-ge6 : goal.returns-then-dir-ge6
returns-then-dir-ge6 c = beyond c.args.w c.args.h c.args.s.hex c.args.dir (omega arith)

pub returns-in_err-t : goal.returns-in_err-t
returns-in_err-t c = rw c.from_residual.ensures c.in_err-t.ensures

pub returns : goal.returns
returns c = (c.in_ok-t.ensures.0, c.in_ok-t.ensures.1, refl)
