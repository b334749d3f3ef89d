-- `write::clear_routes` makes its change. The loop's invariant: the first r routes are emptied.
-- Assumes nothing.
use Prim.Native.Nat.{◌≤◌}
use mathlib.Core.Path.{◌≡◌}
use Rattle.position.specs.Layout.{route_count, clear_routes}
use Rattle.position.specs.Laid.{Laid}
use Rattle.write.proofs.clear_routes.Given as goal

abbrev pub invariant-loop-r : goal.invariant-loop-r
invariant-loop-r l = (l.r ≤ route_count) × (l.p ≡ clear_routes l.initial.p l.r) × Laid l.p l.v
