-- `plot::follow::push_out` meets its contract.
-- Assumes nothing.
use native.Mathlib.Omega.{arith}
use Rattle.plot.proofs.Taking.{pushed_to, pushed_wrong}
use Rattle.follow.proofs.push_out.Goals as goal

pub own-own-requires : goal.own-own-requires
own-own-requires c = c.requires.2

pub take-requires : goal.take-requires
take-requires c = let p = c.requires in (
  p.0,
  p.1,
  c.own-own.ensures.1,
  omega arith,
  p.3,
  p.4,
)

pub returns-in_err-y : goal.returns-in_err-y
returns-in_err-y c = rw c.from_residual.ensures (pushed_wrong c.own-own.ensures.0 c.take.ensures c.in_err-y.was)

pub shift-requires : goal.shift-requires
shift-requires c = (
  c.requires.0,
  c.requires.3,
  (c.take.ensures.ends _ _ c.in_ok-y.was).0,
)

pub returns : goal.returns
returns c = pushed_to c.own-own.ensures.0 c.take.ensures c.in_ok-y.was c.shift.ensures
