-- `clear::out_of` meets its contract.
-- Assumes nothing.
use mathlib.Core.Path.{sym}
use native.Mathlib.Omega.{arith}
use Rattle.shoves.proofs.Clearing.{out_first, out_later}
use Rattle.shoves.proofs.clear.out_of.Goals as goal

pub returns-then-j-k : goal.returns-then-j-k
returns-then-j-k c = sym (out_first _ _ _ _ c.if-j-k.true)

pub returns : goal.returns
returns c = sym (out_later _ _ _ _ (omega arith))
