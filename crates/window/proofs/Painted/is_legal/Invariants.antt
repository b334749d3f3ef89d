-- `Painted::is_legal` meets its contract. The loop's invariant: what is left of the test is the test of what is left of the route.
-- Assumes nothing.
use Rattle.position.specs.Board.{board}
use Rattle.routes.specs.Legal.{legal}
use Rattle.routes.proofs.Legal.{Still}
use Rattle.window.proofs.Painted.is_legal.Given as goal

abbrev pub invariant-loop-i : goal.invariant-loop-i
invariant-loop-i l =
    let s = l.self in
    Still (legal (board s.p.now) s.f s.start l.n l.route) (board s.p.now) s.f s.start l.i l.a l.route
