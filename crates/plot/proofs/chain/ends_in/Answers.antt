use Rattle.plot.proofs.Ends.{end_before, end_after, end_read}
use mathlib.Core.Path.{sym}
use native.Mathlib.Omega.{arith}
use Rattle.plot.proofs.chain.ends_in.Goals as goal

pub returns-then-y-x : goal.returns-then-y-x
returns-then-y-x c = sym (end_before _ _ _ (omega arith))

pub returns-then-x-y : goal.returns-then-x-y
returns-then-x-y c = sym (end_after _ _ _ (omega arith))

pub returns : goal.returns
returns c = end_read _ _ _ c.is_marked.result (omega arith) (omega arith) c.is_marked.ensures
