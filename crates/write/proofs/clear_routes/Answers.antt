-- `write::clear_routes` makes its change. The loop's invariant: the first r routes are emptied.
-- Assumes nothing.
use Prim.Native.Nat.{ℕ}
use mathlib.Core.Path.{refl, ap, ◌∙◌}
use mathlib.Core.List.{List}
use native.Mathlib.Omega.{arith}
use native.Mathlib.Numerals.{add-one}
use Rattle.position.specs.Board.{nowhere}
use Rattle.position.specs.Layout.{set_route, clear_routes}
use Rattle.position.specs.Change.{make}
use Rattle.position.proofs.Laying.{laid_route}
use Rattle.write.proofs.clear_routes.Goals as goal

pub loop-r-init : goal.loop-r-init
unfolding clear_routes
loop-r-init c = (omega arith, refl, c.requires)

pub loop-r-preserved : goal.loop-r-preserved
unfolding make clear_routes
loop-r-preserved c = (
  omega arith,
  c.set_route.ensures ∙ ap (λ (q : List ℕ). set_route q c.loop-r.r nowhere nowhere nowhere nowhere) c.loop-r.invariant.1 ∙ rw add-one,
  laid_route _ _ _ _ _ c.loop-r.invariant.2 c.set_route.ensures,
)

pub returns : goal.returns
unfolding make
returns c = c.loop-r.invariant.1 ∙ ap (clear_routes c.args.p.now) (omega arith)
