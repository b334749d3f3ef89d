-- `bits::without` meets its contract: either part of the sum is at most m.
-- Assumes nothing.
use mathlib.Core.Path.{refl}
use native.Mathlib.Omega.{arith}
use Rattle.position.specs.Bits.{without}
use Rattle.position.proofs.BitLaws.{low, high}
use Rattle.position.proofs.bits.without.Goals as goal

pub overflow_mul-result-3 : goal.overflow_mul-result-3
overflow_mul-result-3 c = omega (arith, high c.args.k c.args.m)

pub overflow_add-result : goal.overflow_add-result
overflow_add-result c = omega (arith, low c.args.k c.args.m, high c.args.k c.args.m)

pub returns : goal.returns
unfolding without
returns c = refl
