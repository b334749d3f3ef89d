-- `ranks::join` meets its contract. The loop's invariant: the units passed that stand there have joined.
-- Assumes nothing.
use Rattle.position.specs.Board.{board}
use Rattle.field.specs.Scene.{scene}
use Rattle.field.specs.Zone.{stands_on}
use Rattle.battle.specs.Mustered.{recruit}
use Rattle.battle.proofs.Lines.{Joining}
use Rattle.ranks.proofs.join.Given as goal

abbrev pub invariant-loop-u : goal.invariant-loop-u
invariant-loop-u l = Joining (stands_on (scene (board l.p)) l.target) (recruit l.p) l.initial.line l.m l.v.count l.line l.n l.u
