-- `bits::with` meets its contract: every part of the sum is at most m or k.
-- Assumes nothing.
use mathlib.Core.Path.{refl}
use native.Mathlib.Omega.{arith}
use Rattle.position.specs.Bits.{with}
use Rattle.position.proofs.BitLaws.{low, high}
use Rattle.position.proofs.bits.with.Goals as goal

pub overflow_add-result : goal.overflow_add-result
overflow_add-result c = omega (arith, low c.args.k c.args.m)

pub overflow_mul-result-3 : goal.overflow_mul-result-3
overflow_mul-result-3 c = omega (arith, high c.args.k c.args.m)

pub overflow_add-result-2 : goal.overflow_add-result-2
overflow_add-result-2 c = omega (arith, low c.args.k c.args.m, high c.args.k c.args.m)

pub returns : goal.returns
unfolding with
returns c = refl
