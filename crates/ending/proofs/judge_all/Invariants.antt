-- `ending::judge_all` judges a nationality's units. The loop's invariant: those below u are judged, and the layout stays.
-- Assumes nothing.
use Rattle.position.specs.Laid.{Laid}
use Rattle.march.specs.Ending.{JudgesAll}
use Rattle.ending.proofs.judge_all.Given as goal

abbrev pub invariant-loop-u : goal.invariant-loop-u
invariant-loop-u l = Laid l.p l.v × JudgesAll l.initial.p l.n l.u l.p
