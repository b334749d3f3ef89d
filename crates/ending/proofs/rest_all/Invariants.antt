-- `ending::rest_all` rests every unit. The loop's invariant: the units below u are rested.
-- Assumes nothing.
use mathlib.Core.Path.{◌≡◌}
use Rattle.position.specs.Board.{board}
use Rattle.position.specs.Change.{makes}
use Rattle.position.specs.Laid.{Laid}
use Rattle.march.specs.EndPhase.{rest_all}
use Rattle.ending.proofs.rest_all.Given as goal

abbrev pub invariant-loop-u : goal.invariant-loop-u
invariant-loop-u l = (l.p ≡ makes l.initial.p (rest_all (board l.initial.p) l.u)) × Laid l.p l.v
