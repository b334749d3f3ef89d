-- What the counts of a position come to: how many hexes, and where the bodies begin.
-- Assumes nothing.
use Prim.Native.Nat.{ℕ, ◌+◌, ◌*◌, ◌≤◌}
use mathlib.Core.Path.{◌≡◌, sym, ap, ap₂}
use mathlib.Core.List.{List}
use mathlib.Core.Bool.{Bool, true, false, cond}
use native.Mathlib.Omega.{arith}
use native.Mathlib.Nat.{mul-le-mul}
use lib.Dec.{eqb}
use Rattle.position.specs.Layout.{
  desk_body,
  results_at,
  results_head,
  column_size,
  width_field,
  height_field,
  players_field,
  forces,
  byte,
  word,
  extent,
  columns,
  map_at,
  width,
  height,
  hexes,
  units_at,
  count,
  players_named,
}
use Rattle.position.specs.Shape.{In, Entry, Shaped}
use Rattle.position.specs.Laid.{Laid}
use Rattle.position.specs.declared.View.{View}
use Rattle.position.proofs.Answers.{carry}

-- two small numbers multiplied
pub area : {w h : ℕ} → In 1 w 64 → In 1 h 64 → w * h ≤ 4096
area w h = mul-le-mul w.high h.high

pub hexes_most : {p : List ℕ} → Shaped p → hexes p ≤ 4096
unfolding hexes
hexes_most s = area s.width s.height

pub hexes_least : {p : List ℕ} → Shaped p → 1 ≤ hexes p
unfolding hexes
hexes_least s = let e : 1 * 1 ≤ _ = mul-le-mul s.width.low s.height.low in e

-- the same of a view: what a checked position's counts are
pub record Sizes (v : View) : Type 0 where
  pub columns : In 1 v.columns 12
  pub width : In 1 v.width 64
  pub height : In 1 v.height 64
  pub hexes : In 1 v.hexes 4096
  pub count : v.count ≤ 400

pub sizes : {p : List ℕ} {v : View} → Laid p v → Sizes v
sizes l =
    let s = l.shaped in
    let w = l.view in
    record {
      columns = carry (sym w.columns) s.columns;
      width = carry (sym w.width) s.width;
      height = carry (sym w.height) s.height;
      hexes = carry (sym w.hexes) (record { low = hexes_least s; high = hexes_most s });
      count = l.fits.count;
    }

-- the counts, read where the code looks for them
module _ (p : List ℕ) {cols : ℕ} (e : cols ≡ columns p) where
  pub width_is : byte p (results_at + results_head + column_size * cols + width_field) ≡ width p
  unfolding width map_at
  width_is = ap (λ (n : ℕ). byte p (results_at + results_head + column_size * n + width_field)) e

  pub height_is : byte p (results_at + results_head + column_size * cols + height_field) ≡ height p
  unfolding height map_at
  height_is = ap (λ (n : ℕ). byte p (results_at + results_head + column_size * n + height_field)) e

module _ (p : List ℕ) where
  pub hexes_is : {w h : ℕ} → w ≡ width p → h ≡ height p → w * h ≡ hexes p
  unfolding hexes
  hexes_is e f = ap₂ ◌*◌ e f

  pub count_is : {at : ℕ} → at ≡ units_at p → word p at ≡ count p
  unfolding count
  count_is e = ap (word p) e

  pub named_most : {n : ℕ} → n ≡ players_named p → n ≤ forces
  unfolding players_named
  named_most e = omega (arith, e, cond_most (eqb (extent p desk_body) (players_field + forces)))
    where
      cond_most : (t : Bool) → cond t forces 0 ≤ forces
      cond_most true = omega arith
      cond_most false = omega arith

-- an entry, by other names of where its body begins and how long it is
pub entry_is : {p : List ℕ} {k a b l m : ℕ} → a ≡ b → l ≡ m → Entry p k a l → Entry p k b m
entry_is e f x = record { offset = omega arith; extent = omega arith }
