-- `map_ok::rim_ok` meets its contract. The loop's invariant: every hex before h has its sides as they should be, and h is the rim's next.
-- Assumes nothing.
use Prim.Native.Nat.{◌-◌}
use Rattle.setting.proofs.Rims.{Round}
use Rattle.setting.proofs.map_ok.rim_ok.Given as goal

abbrev pub invariant-loop-h : goal.invariant-loop-h
invariant-loop-h l = Round l.p l.v l.h

abbrev pub decreases-loop-h : goal.decreases-loop-h
decreases-loop-h l = l.hexes - l.h
