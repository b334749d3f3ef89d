-- `Painted::search` meets its contract: at each turn of a loop the answer is what is still ahead (Ahead.antt).
-- The measures are how many directions are left.
-- Assumes nothing.
use Rattle.std.specs.Prelude.{None}
use Prim.Native.Nat.{◌-◌}
use Rattle.position.specs.Board.{board}
use Rattle.routes.specs.Search.{first_route}
use Rattle.routes.proofs.Ahead.{from, further, rest, Ahead}
use Rattle.window.proofs.Painted.search.Given as goal

abbrev pub invariant-loop-d3 : goal.invariant-loop-d3
invariant-loop-d3 l =
    let s = l.self in
    let k = from (board s.p.now) s.f s.start l.n in
    Ahead l.found (first_route (board s.p.now) s.f s.start l.n) (further (further k l.a) l.b) l.d3 (rest (further k l.a) l.d2 (rest k l.d1 None))

abbrev pub decreases-loop-d3 : goal.decreases-loop-d3
decreases-loop-d3 l = 6 - l.d3

abbrev pub invariant-loop-d2 : goal.invariant-loop-d2
invariant-loop-d2 l =
    let s = l.self in
    let k = from (board s.p.now) s.f s.start l.n in
    Ahead l.found (first_route (board s.p.now) s.f s.start l.n) (further k l.a) l.d2 (rest k l.d1 None)

abbrev pub decreases-loop-d2 : goal.decreases-loop-d2
decreases-loop-d2 l = 6 - l.d2

abbrev pub invariant-search : goal.invariant-search
invariant-search l =
    let s = l.self in
    Ahead l.found (first_route (board s.p.now) s.f s.start l.n) (from (board s.p.now) s.f s.start l.n) l.d1 None

abbrev pub decreases-search : goal.decreases-search
decreases-search l = 6 - l.d1
