-- A position with the counts of another: its bodies begin where those of the other do.
-- Assumes nothing.
use Prim.Native.Nat.{ℕ, ◌+◌, ◌*◌, ◌<◌}
use mathlib.Core.Path.{◌≡◌, refl, sym, ap₂, ◌∙◌}
use mathlib.Core.List.{List}
use native.Mathlib.Omega.{arith}
use lib.ListN.{length}
use Rattle.position.specs.Layout.{
  byte,
  word,
  desk_body,
  chart_body,
  results_body,
  map_body,
  units_body,
  entry_size,
  extent_at,
  offset,
  extent,
  columns,
  map_at,
  width,
  height,
  hexes,
  units_at,
  count,
  desk_length,
  desk_at,
  unit_at,
}
use Rattle.position.specs.Shape.{Entry, Shaped}

pub record Counts (p q : List ℕ) : Type 0 where
  pub columns : columns q ≡ columns p
  pub width : width q ≡ width p
  pub height : height q ≡ height p
  pub count : count q ≡ count p

pub counts_refl : (p : List ℕ) → Counts p p
counts_refl p = record { columns = refl; width = refl; height = refl; count = refl }

pub counts_trans : {p q r : List ℕ} → Counts p q → Counts q r → Counts p r
counts_trans f g =
    record {
      columns = g.columns ∙ f.columns;
      width = g.width ∙ f.width;
      height = g.height ∙ f.height;
      count = g.count ∙ f.count;
    }

-- a 16-bit number, from its bytes
pub word_of : (p q : List ℕ) (i : ℕ) → byte q i ≡ byte p i → byte q (i + 1) ≡ byte p (i + 1) → word q i ≡ word p i
unfolding word
word_of p q i d e = ap₂ (λ (a b : ℕ). a + 256 * b) d e

module _ {p q : List ℕ} (f : Counts p q) where
  pub map_at_same : map_at q ≡ map_at p
  unfolding map_at
  map_at_same = omega (arith, f.columns)

  pub hexes_same : hexes q ≡ hexes p
  unfolding hexes
  hexes_same = ap₂ ◌*◌ f.width f.height

  pub units_at_same : units_at q ≡ units_at p
  unfolding units_at
  units_at_same = omega (arith, map_at_same, hexes_same)

  pub desk_at_same : desk_at q ≡ desk_at p
  unfolding desk_at
  desk_at_same = omega (arith, units_at_same, f.count)

  pub unit_at_same : (u : ℕ) → unit_at q u ≡ unit_at p u
  unfolding unit_at
  unit_at_same u = omega (arith, units_at_same)

  -- where the contents say the same, but for the desk's length
  module _ (contents : (i : ℕ) → i < extent_at desk_body → byte q i ≡ byte p i) where
    word_same : (i : ℕ) → i + 1 < extent_at desk_body → word q i ≡ word p i
    word_same i m = word_of p q i (contents i (omega arith)) (contents (i + 1) m)

    entry_same : (k : ℕ) → k < desk_body → {at at' long long' : ℕ} → at' ≡ at → long' ≡ long → Entry p k at long → Entry q k at' long'
    unfolding offset extent
    entry_same k l e g n =
        record {
          offset = word_same (entry_size * k) (omega arith) ∙ n.offset ∙ sym e;
          extent = word_same (extent_at k) (omega arith) ∙ n.extent ∙ sym g;
        }

    -- the bodies lie as they should, if the desk's length is said and kept
    pub shaped_same : extent q desk_body ≡ desk_length q → length q ≡ desk_at q + desk_length q → Shaped p → Shaped q
    unfolding offset
    shaped_same d w s =
        record {
          chart = entry_same chart_body (omega arith) refl refl s.chart;
          results = entry_same results_body (omega arith) refl (omega (arith, f.columns)) s.results;
          columns = omega (arith, f.columns, s.columns);
          map = entry_same map_body (omega arith) map_at_same (omega (arith, hexes_same)) s.map;
          width = omega (arith, f.width, s.width);
          height = omega (arith, f.height, s.height);
          units = entry_same units_body (omega arith) units_at_same (omega (arith, f.count)) s.units;
          count = omega (arith, f.count, s.count);
          desk = record { offset = word_same (entry_size * desk_body) (omega arith) ∙ s.desk.offset ∙ sym desk_at_same; extent = d };
          whole = w;
        }
