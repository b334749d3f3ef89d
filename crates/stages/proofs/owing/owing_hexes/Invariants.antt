-- `owing::owing_hexes` meets its contract. The loop's invariant: the hexes seen are those of the units before u that owe.
-- Assumes nothing.
use Rattle.position.specs.Board.{board}
use Rattle.acceptance.specs.Noted.{Noted}
use Rattle.stages.proofs.owing.owing_hexes.Given as goal

abbrev pub invariant-loop-u : goal.invariant-loop-u
invariant-loop-u l = Noted (board l.p) l.u l.seen.count l.seen.hexes
