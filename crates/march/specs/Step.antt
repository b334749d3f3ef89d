-- A step of a move: the side crossed, and what it costs.
-- Assumes nothing.
use Rattle.std.specs.Prelude.{ℕ, ◌+◌, cond, eqb}
use Rattle.position.specs.Layout.{river, major_river}
use Rattle.position.specs.Board.{Board}
use Rattle.position.specs.Ground.{side, river_side, major_river_side}
use Rattle.position.specs.Ground.{bearing}

-- "then the same pair for river and major river, where cost is extra and 0 means none"
unfoldable pub side_cost : Board → ℕ → ℕ
side_cost b s = cond (eqb s river_side) (b.chart.cost river) (cond (eqb s major_river_side) (b.chart.cost major_river) 0)

-- "Each step costs terrain plus side": the terrain of the hex entered, and the side crossed
unfoldable pub step_cost : Board → ℕ → ℕ → ℕ
step_cost b h x = b.chart.cost (b.map.terrain x) + side_cost b (side b.map h (bearing b.map h x))
