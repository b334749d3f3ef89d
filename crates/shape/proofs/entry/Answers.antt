-- `shape::entry` meets its contract: both numbers are read and compared.
-- Assumes nothing.
use native.Mathlib.Omega.{arith}
use Rattle.position.specs.Layout.{offset, extent}
use Rattle.shape.proofs.entry.Goals as goal

pub returns-then-word-at : goal.returns-then-word-at
unfolding offset
returns-then-word-at c = λ t. omega arith

pub returns-then-word-long : goal.returns-then-word-long
unfolding extent
returns-then-word-long c = λ t. omega arith

pub returns : goal.returns
unfolding offset extent
returns c = record { offset = omega arith; extent = omega arith }
