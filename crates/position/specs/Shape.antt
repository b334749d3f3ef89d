-- How the bodies of a position lie: the contents name them, and the counts that they hold fill it.
-- Assumes nothing.
use Rattle.std.specs.Prelude.{ℕ, ◌+◌, ◌≤◌, ◌≡◌, List, length}
use Rattle.position.specs.Layout as Layout

-- lo..hi
pub record In (lo n hi : ℕ) : Type 0 where
  pub low : lo ≤ n
  pub high : n ≤ hi

-- entry k of the contents names a body that begins at `at` and is `long` bytes long
pub record Entry (p : List ℕ) (k at long : ℕ) : Type 0 where
  pub offset : Layout.offset p k ≡ at
  pub extent : Layout.extent p k ≡ long

-- "Five entries of offset and length .., then the bodies in this order, without gap or tail"
pub record Shaped (p : List ℕ) : Type 0 where
  -- "Chart, 36 bytes"
  pub chart : Entry p Layout.chart_body Layout.chart_at Layout.chart_length
  -- "Results: column count 1..12; per column a, d .., then six results"
  pub results : Entry p Layout.results_body Layout.results_at (Layout.results_length p)
  pub columns : In 1 (Layout.columns p) 12
  -- "Map: width, height; per hex" five numbers; "Width and height are 1 to 64."
  pub map : Entry p Layout.map_body (Layout.map_at p) (Layout.map_length p)
  pub width : In 1 (Layout.width p) 64
  pub height : In 1 (Layout.height p) 64
  -- "Units: 16-bit count 0..400; per unit" eight bytes
  pub units : Entry p Layout.units_body (Layout.units_at p) (Layout.units_length p)
  pub count : Layout.count p ≤ Layout.units_most
  -- "Desk, 56 bytes", and four more if it names the players
  pub desk : Entry p Layout.desk_body (Layout.desk_at p) (Layout.desk_length p)
  pub whole : length p ≡ Layout.desk_at p + Layout.desk_length p
