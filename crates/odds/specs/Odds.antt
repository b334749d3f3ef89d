-- The odds: what multiplies the defence, and the column of the results.
-- Assumes nothing.
use Rattle.std.specs.Prelude.{ℕ, zero, suc, ◌*◌, Bool, cond, List, [], ◌∷◌, map, leb, eqb}
use Rattle.position.specs.Layout.{river, major_river}
use Rattle.position.specs.Board.{Board, Chart, Results}
use Rattle.position.specs.Ground.{side, river_side, major_river_side}
use Rattle.position.specs.Ground.{bearing}

unfoldable pub smaller : ℕ → ℕ → ℕ
smaller m n = cond (leb m n) m n

unfoldable pub larger : ℕ → ℕ → ℕ
larger m n = cond (leb m n) n m

-- the multiple of a side: a river's, a major river's, and 0 for a side without
unfoldable pub side_multiple : Chart → ℕ → ℕ
side_multiple c s = cond (eqb s river_side) (c.multiple river) (cond (eqb s major_river_side) (c.multiple major_river) 0)

-- the multiple that unit u crosses to the target
unfoldable pub crossed : Board → ℕ → ℕ → ℕ
crossed b target u = side_multiple b.chart (side b.map (b.units.state.hex u) (bearing b.map (b.units.state.hex u) target))

-- the smallest of m and the others; and of a list, 0 for none
unfoldable pub smallest_from : ℕ → List ℕ → ℕ
smallest_from m [] = m
smallest_from m (x ∷ xs) = smallest_from (smaller x m) xs

unfoldable pub smallest : List ℕ → ℕ
smallest [] = 0
smallest (m ∷ ms) = smallest_from m ms

-- "the larger of the terrain multiple and, if every attacker crosses a river, the smallest multiple crossed": where one attacker
-- crosses none, the smallest is its 0, and the terrain's stands
unfoldable pub defence_multiple : ℕ → List ℕ → ℕ
defence_multiple terrain sides = larger terrain (smallest sides)

unfoldable pub multiple_at : Board → ℕ → List ℕ → ℕ
multiple_at b target units = defence_multiple (b.chart.multiple (b.map.terrain target)) (map (crossed b target) units)

-- "A x d >= a x D"
unfoldable pub reached : Results → ℕ → ℕ → ℕ → Bool
reached r attack defence c = leb (r.attack c * defence) (attack * r.defence c)

-- the last number below n that passes the test, else 0
unfoldable pub last : (ℕ → Bool) → ℕ → ℕ
last t zero = 0
last t (suc n) = cond (t n) n (last t n)

-- "Column: the last with A x d >= a x D, else the first.", counted from 0
unfoldable pub column : Results → ℕ → ℕ → ℕ
column r attack defence = last (reached r attack defence) r.columns
