-- All that the calls may do to a position. A change to a unit that is not there, or to a hex that is not on the map, changes nothing.
-- Assumes nothing.
use Rattle.std.specs.Prelude.{ℕ, List, [], ◌∷◌, cond, ltb}
use Rattle.position.specs.Bits.{with, tried, faced}
use Rattle.position.specs.Role as Role
use Rattle.position.specs.Layout as Layout
use Rattle.position.specs.Layout.{set_hex, set_marks, set_role, set_clock, set_stage, set_route, clear_routes, route_count}
use Rattle.position.specs.Board.{nowhere}

pub data Change : Type 0 where
  -- unit u stands on hex h of the map
  placed : ℕ → ℕ → Change
  -- unit u is destroyed, the one way into the box: it keeps no role, and no mark but tried
  destroyed : ℕ → Change
  -- unit u has the marks m; whether it is tried stays as it is
  marked : ℕ → ℕ → Change
  -- unit u has the role r
  assigned : ℕ → ℕ → Change
  -- turn, force and phase
  timed : ℕ → ℕ → ℕ → Change
  -- stage, owed retreat n and need
  staged : ℕ → ℕ → ℕ → Change
  -- route r is these four numbers
  routed : ℕ → ℕ → ℕ → ℕ → ℕ → Change
  -- no route is filled
  unrouted : Change

unfoldable pub make : List ℕ → Change → List ℕ
make p (placed u h) = cond (ltb h (Layout.hexes p)) (set_hex p u h) p
make p (destroyed u) = set_role (set_marks (set_hex p u nowhere) u (faced (Layout.marks p u) 0)) u Role.none
make p (marked u m) = set_marks p u (faced (Layout.marks p u) m)
make p (assigned u r) = set_role p u r
make p (timed t f ph) = set_clock p t f ph
make p (staged s n x) = set_stage p s n x
make p (routed r a b c d) = set_route p r a b c d
make p unrouted = clear_routes p route_count

-- one change after another
unfoldable pub makes : List ℕ → List Change → List ℕ
makes p [] = p
makes p (x ∷ xs) = makes (make p x) xs

-- unit u turned over: its strength is seen from now on
unfoldable pub turned : List ℕ → ℕ → List ℕ
turned p u = set_marks p u (with tried (Layout.marks p u))

-- whose strength unit u has after a change: its own
unfoldable pub source : Change → ℕ → ℕ
source x u = u
