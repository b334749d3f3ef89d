-- The lines of document 01 on chart, results and map: what no call changes.
-- Assumes nothing.
use Rattle.std.specs.Prelude.{ℕ, ◌+◌, ◌*◌, ◌≤◌, ◌<◌, ◌≡◌, None}
use Rattle.position.specs.Board.{Chart, Results, Map}
use Rattle.position.specs.Ground.{beside, stored}
use Rattle.position.specs.Shape.{In}
use Rattle.position.specs.Layout.{chart_rows, die_faces}

-- "cost 0..9 (0 means prohibited) and defence multiple 1..4"
pub record TerrainOk (c : Chart) (t : ℕ) : Type 0 where
  pub cost : c.cost t ≤ 9
  pub multiple : In 1 (c.multiple t) 4

-- "16 terrains ..; then the same pair for river and major river"
abbrev pub ChartOk : Chart → Type 0
ChartOk c = (t : ℕ) → t < chart_rows → TerrainOk c t

-- "a, d (1..20 each ..), then six results for die 1..6. Codes: 1..3 D1..D3, 4..6 A1..A3, 7 Ae, 8 De, 9 Dx, 10 Ax."
pub record ColumnOk (r : Results) (c : ℕ) : Type 0 where
  pub attack : In 1 (r.attack c) 20
  pub defence : In 1 (r.defence c) 20
  pub codes : (die : ℕ) → die < die_faces → In 1 (r.code c (die + 1)) 10

-- "a:d strictly rising": the ratio grows from column c to the next
pub record RisingOk (r : Results) (c : ℕ) : Type 0 where
  pub rising : r.attack c * r.defence (c + 1) < r.attack (c + 1) * r.defence c

pub record ResultsOk (r : Results) : Type 0 where
  pub columns : (c : ℕ) → c < r.columns → ColumnOk r c
  pub rising : (c : ℕ) → c + 1 < r.columns → RisingOk r c

-- "Map: .. per hex terrain 0..15, surface (0 land, 1 coastal, 2 all-sea, 3 lake), flags (1 port + 2 urban + 4 supply),
-- country (0 none, 1 US, 2 Canada), sides N + 4 x NE + 16 x SE"; "unnamed bits are 0"
pub record HexOk (m : Map) (h : ℕ) : Type 0 where
  pub terrain : m.terrain h ≤ 15
  pub surface : m.surface h ≤ 3
  pub flags : m.flags h ≤ 7
  pub country : m.country h ≤ 2
  pub sides : m.sides h < 64

-- "off-map sides 0": a stored side that no hex lies beyond
pub record EdgeOk (m : Map) (h d : ℕ) : Type 0 where
  pub plain : beside m h d ≡ None → stored m h d ≡ 0

-- "Map: width, height; per hex" five numbers: hexes number width x height, and N, NE and SE are the directions 0, 1 and 2
pub record MapOk (m : Map) : Type 0 where
  pub area : m.hexes ≡ m.width * m.height
  pub hexes : (h : ℕ) → h < m.hexes → HexOk m h
  pub edges : (h : ℕ) → h < m.hexes → (d : ℕ) → d < 3 → EdgeOk m h d
