-- `map_ok::sixteen_ok` meets its contract. The loop's invariant: `fit` says whether every hex before the k-th is as it should be.
-- Assumes nothing.
use Prim.Native.Nat.{ℕ, ◌+◌, ◌-◌, ◌≤◌, ◌<◌}
use mathlib.Core.List.{List}
use Rattle.position.specs.Board.{ground}
use Rattle.position.specs.Laid.{Says}
use Rattle.setting.specs.Setting.{HexOk}
use Rattle.setting.proofs.map_ok.sixteen_ok.Given as goal

abbrev pub Fit : List ℕ → ℕ → ℕ → Type 0
Fit p first k = HexOk (ground p) (first + k)

abbrev pub invariant-loop-k : goal.invariant-loop-k
invariant-loop-k l = (l.k ≤ 16) × Says l.fit ((j : ℕ) → j < l.k → Fit l.p l.first j)

abbrev pub decreases-loop-k : goal.decreases-loop-k
decreases-loop-k l = 16 - l.k
