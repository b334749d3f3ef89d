-- `grid::on_map` meets its contract: once both sides are known to be small their product fits.
-- Assumes nothing.
use mathlib.Core.Path.{◌≡◌, sym, ◌∙◌}
use mathlib.Core.Bool.{true}
use native.Mathlib.Omega.{arith}
use Rattle.grid.specs.Map.{one_to, on_map}
use Rattle.grid.proofs.Arith.{small}
use Rattle.grid.proofs.Tests.{one_to_lem}
use Rattle.grid.proofs.on_map.Goals as goal

pub returns-then-not-side : goal.returns-then-not-side
unfolding on_map
returns-then-not-side c = simp (sym c.side.ensures ∙ c.if-not-side.true)

-- past a test its side is 1 to 64
height : (c : goal.Else-not-side-2) → one_to c.args.h 64 ≡ true
height c = sym c.side-2.ensures ∙ c.if-not-side-2.false

pub returns-then-not-side-2 : goal.returns-then-not-side-2
unfolding on_map
returns-then-not-side-2 c = simp ((sym c.side.ensures ∙ c.if-not-side.false), sym c.side-2.ensures ∙ c.if-not-side-2.true)

pub overflow_mul-result : goal.overflow_mul-result
overflow_mul-result c =
    let a = one_to_lem c.args.w 64 (sym c.side.ensures ∙ c.if-not-side.false) in
    let b = one_to_lem c.args.h 64 (height c) in
    omega (arith, small a.1 b.1)

pub returns : goal.returns
unfolding on_map
returns c = simp ((sym c.side.ensures ∙ c.if-not-side.false), height c)
