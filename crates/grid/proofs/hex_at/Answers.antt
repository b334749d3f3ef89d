-- `grid::hex_at` meets its contract: at each `return` the tests that led there say which case of `hex_at` holds.
-- Assumes nothing.
use borrow.Author.Tests.{le-leb, lt-leb}
use Prim.Native.Nat.{◌-◌, ◌*◌, ◌≤◌}
use native.Mathlib.Omega.{arith}
use Rattle.grid.specs.Map.{hex_at}
use Rattle.grid.proofs.Arith.{small}
use Rattle.grid.proofs.hex_at.Goals as goal

pub returns-then-x-lt1 : goal.returns-then-x-lt1
unfolding hex_at
returns-then-x-lt1 c = simp (lt-leb _ _ c.if-x-lt1.true)

pub returns-then-w-x : goal.returns-then-w-x
unfolding hex_at
returns-then-w-x c = simp (le-leb _ _ c.if-x-lt1.false, lt-leb _ _ c.if-w-x.true)

pub returns-then-y-lt1 : goal.returns-then-y-lt1
unfolding hex_at
returns-then-y-lt1 c = simp (le-leb _ _ c.if-x-lt1.false, le-leb _ _ c.if-w-x.false, lt-leb _ _ c.if-y-lt1.true)

pub returns-then-h-y : goal.returns-then-h-y
unfolding hex_at
returns-then-h-y c =
    simp (
      le-leb _ _ c.if-x-lt1.false,
      le-leb _ _ c.if-w-x.false,
      le-leb _ _ c.if-y-lt1.false,
      lt-leb _ _ c.if-h-y.true,
    )

-- the rows above hold few hexes
rows : (c : goal.Else-h-y) → (c.args.y - 1) * c.args.w ≤ 4096
rows c = small (omega arith) (omega arith)

pub overflow_mul-result : goal.overflow_mul-result
overflow_mul-result c = omega (arith, rows c)

pub overflow_add-result : goal.overflow_add-result
overflow_add-result c = omega (arith, rows c)

pub returns : goal.returns
unfolding hex_at
returns c =
    simp (
      le-leb _ _ c.if-x-lt1.false,
      le-leb _ _ c.if-w-x.false,
      le-leb _ _ c.if-y-lt1.false,
      le-leb _ _ c.if-h-y.false,
    )
