-- A position whose bodies before the units' records are another's: chart, results, map and counts are the same. What the contents say of
-- the desk's length may differ, and so may everything from the units' records on.
-- Assumes nothing.
use Prim.Native.Nat.{ℕ, suc, ◌+◌, ◌*◌, ◌≤◌, ◌<◌}
use mathlib.Core.Path.{◌≡◌, refl, sym, ap, ap₂, fun_ext, ◌∙◌}
use mathlib.Core.List.{List}
use mathlib.Core.Bool.{Bool, true, false, cond}
use native.Mathlib.Omega.{arith}
use native.Mathlib.Decide.{dec_lt}
use lib.Dec.{ltb}
use borrow.Author.Tests.{ltb-true}
use Rattle.position.specs.Layout.{
  byte,
  word,
  desk_body,
  extent_at,
  chart_at,
  terrain_size,
  chart_rows,
  cost_field,
  multiple_field,
  results_at,
  results_head,
  column_size,
  attack_field,
  defence_field,
  codes_field,
  map_head,
  width_field,
  height_field,
  hex_size,
  terrain_field,
  surface_field,
  flags_field,
  country_field,
  sides_field,
  units_head,
  columns,
  map_at,
  width,
  height,
  hexes,
  units_at,
  count,
  cell,
  chart_byte,
  column_byte,
  code,
  hex_byte,
  die_faces,
}
use Rattle.position.specs.Board.{chart, results, ground}
use Rattle.position.proofs.Cells.{inside, cell_in, cell_out}
use Rattle.position.proofs.Counts.{Counts, word_of, hexes_same}

pub record Bodies (p q : List ℕ) : Type 0 where
  pub contents : (i : ℕ) → i < extent_at desk_body → byte q i ≡ byte p i
  pub same : (i : ℕ) → chart_at ≤ i → i < units_at p + units_head → byte q i ≡ byte p i

module _ {p q : List ℕ} (f : Bodies p q) where
  columns_same : columns q ≡ columns p
  unfolding columns units_at map_at
  columns_same = f.same results_at (omega arith) (omega arith)

  map_starts : map_at q ≡ map_at p
  unfolding map_at
  map_starts = omega (arith, columns_same)

  width_same : width q ≡ width p
  unfolding width units_at map_at
  width_same = ap (λ (i : ℕ). byte q (i + width_field)) map_starts ∙ f.same (map_at p + width_field) (omega arith) (omega arith)

  height_same : height q ≡ height p
  unfolding height units_at map_at
  height_same = ap (λ (i : ℕ). byte q (i + height_field)) map_starts ∙ f.same (map_at p + height_field) (omega arith) (omega arith)

  units_start : units_at q ≡ units_at p
  unfolding units_at hexes
  units_start = ap₂ (λ (i n : ℕ). i + map_head + hex_size * n) map_starts (ap₂ ◌*◌ width_same height_same)

  pub bodies_counts : Counts p q
  unfolding count units_at map_at
  bodies_counts =
      record {
        columns = columns_same;
        width = width_same;
        height = height_same;
        count =
            ap (word q) units_start
            ∙ word_of p q (units_at p) (f.same (units_at p) (omega arith) (omega arith)) (f.same (units_at p + 1) (omega arith) (omega arith));
      }

  -- the cells of a table that ends before the units' records
  cell_same :
      (start size n : ℕ) → chart_at ≤ start → start + size * n ≤ units_at p + units_head → (g : ℕ) → g < size
      → (k : ℕ) → cell q start size n k g ≡ cell p start size n k g
  cell_same start size n b l g m k = at (dec_lt k n)
    where
      at : Dec (k < n) → cell q start size n k g ≡ cell p start size n k g
      at (yes h) =
          cell_in q start size n k g h
          ∙ f.same (start + size * k + g) (omega arith) (omega (arith, inside size n k g h m))
          ∙ sym (cell_in p start size n k g h)
      at (no h) = cell_out q start size n k g (omega arith) ∙ sym (cell_out p start size n k g (omega arith))

  chart_byte_same : (g : ℕ) → g < terrain_size → (t : ℕ) → chart_byte q t g ≡ chart_byte p t g
  unfolding units_at map_at
  chart_byte_same g l t = cell_same chart_at terrain_size chart_rows (omega arith) (omega arith) g l t

  pub chart_same : chart q ≡ chart p
  chart_same =
      λ i.
      record {
        cost = fun_ext (chart_byte_same cost_field (omega arith)) i;
        multiple = fun_ext (chart_byte_same multiple_field (omega arith)) i;
      }

  column_byte_same : (g : ℕ) → g < column_size → (c : ℕ) → column_byte q c g ≡ column_byte p c g
  unfolding column_byte units_at map_at
  column_byte_same g l c =
      ap (λ (n : ℕ). cell q (results_at + results_head) column_size n c g) columns_same
      ∙ cell_same (results_at + results_head) column_size (columns p) (omega arith) (omega arith) g l c

  code_same : (c die : ℕ) → code q c die ≡ code p c die
  unfolding code
  code_same c die = ap (λ x. cond (ltb 0 die) x 0) (at (ltb die (suc die_faces)) refl)
    where
      at : (t : Bool) → ltb die (suc die_faces) ≡ t → cond t (column_byte q c (codes_field + die)) 0 ≡ cond t (column_byte p c (codes_field + die)) 0
      at true e = let l = ltb-true die (suc die_faces) e in column_byte_same (codes_field + die) (omega arith) c
      at false e = refl

  pub results_same : results q ≡ results p
  results_same =
      λ i.
      record {
        columns = columns_same i;
        attack = fun_ext (column_byte_same attack_field (omega arith)) i;
        defence = fun_ext (column_byte_same defence_field (omega arith)) i;
        code = fun_ext (λ c. fun_ext (code_same c)) i;
      }

  hex_byte_same : (g : ℕ) → g < hex_size → (h : ℕ) → hex_byte q h g ≡ hex_byte p h g
  unfolding hex_byte units_at map_at
  hex_byte_same g l h =
      ap₂ (λ (a n : ℕ). cell q (a + map_head) hex_size n h g) map_starts (hexes_same bodies_counts)
      ∙ cell_same (map_at p + map_head) hex_size (hexes p) (omega arith) (omega arith) g l h

  pub ground_same : ground q ≡ ground p
  ground_same =
      λ i.
      record {
        width = width_same i;
        height = height_same i;
        hexes = hexes_same bodies_counts i;
        terrain = fun_ext (hex_byte_same terrain_field (omega arith)) i;
        surface = fun_ext (hex_byte_same surface_field (omega arith)) i;
        flags = fun_ext (hex_byte_same flags_field (omega arith)) i;
        country = fun_ext (hex_byte_same country_field (omega arith)) i;
        sides = fun_ext (hex_byte_same sides_field (omega arith)) i;
      }
