-- A position that is laid out as another, which every change leaves: as long, with the same contents and counts.
-- Assumes nothing.
use Prim.Native.Nat.{ℕ, ◌+◌, ◌≤◌, ◌<◌}
use mathlib.Core.Path.{◌≡◌, refl, sym, ap, ◌∙◌}
use mathlib.Core.List.{List}
use mathlib.Core.Bool.{cond}
use native.Mathlib.Omega.{arith}
use lib.ListN.{length, set, length-set}
use lib.Dec.{eqb}
use lib.Seq.{get_or-set_other}
use Rattle.position.specs.declared.View.{View}
use Rattle.position.specs.Layout.{byte, desk_body, extent_at, players_field, forces, chart_at, units_head, extent, map_at, hexes, units_at, count, desk_at, players_named, unit_at}
use Rattle.position.specs.Shape.{Shaped}
use Rattle.position.specs.Laid.{Laid}
use Rattle.position.proofs.Counts.{Counts, counts_refl, counts_trans, word_of, hexes_same, units_at_same, desk_at_same, unit_at_same, shaped_same}
use Rattle.position.proofs.Bodies.{Bodies, bodies_counts}

pub record Front (p q : List ℕ) : Type 0 where
  pub long : length q ≡ length p
  pub contents : (i : ℕ) → i < chart_at → byte q i ≡ byte p i
  pub counts : Counts p q

pub front_refl : (p : List ℕ) → Front p p
front_refl p = record { long = refl; contents = λ i l. refl; counts = counts_refl p }

pub front_trans : {p q r : List ℕ} → Front p q → Front q r → Front p r
front_trans f g =
    record {
      long = g.long ∙ f.long;
      contents = λ i l. g.contents i l ∙ f.contents i l;
      counts = counts_trans f.counts g.counts;
    }

module _ {p q : List ℕ} (f : Front p q) where
  pub hexes_kept : hexes q ≡ hexes p
  hexes_kept = hexes_same f.counts

  pub units_at_kept : units_at q ≡ units_at p
  units_at_kept = units_at_same f.counts

  pub count_kept : count q ≡ count p
  count_kept = f.counts.count

  pub desk_at_kept : desk_at q ≡ desk_at p
  desk_at_kept = desk_at_same f.counts

  pub unit_at_kept : (u : ℕ) → unit_at q u ≡ unit_at p u
  unit_at_kept u = unit_at_same f.counts u

  pub extent_kept : extent q desk_body ≡ extent p desk_body
  unfolding extent
  extent_kept =
      word_of p q (extent_at desk_body) (f.contents (extent_at desk_body) (omega arith)) (f.contents (extent_at desk_body + 1) (omega arith))

  pub named_kept : players_named q ≡ players_named p
  unfolding players_named
  named_kept = ap (λ (n : ℕ). cond (eqb n (players_field + forces)) forces 0) extent_kept

  pub shaped_kept : Shaped p → Shaped q
  shaped_kept s =
      shaped_same f.counts (λ i l. f.contents i (omega arith)) (omega (arith, extent_kept, s.desk.extent, named_kept))
      (omega (arith, f.long, s.whole, desk_at_kept, named_kept))
      s

  pub laid_kept : {v : View} → Laid p v → Laid q v
  laid_kept {v} l =
      let w = l.view in
      record {
        shaped = shaped_kept l.shaped;
        view =
            record {
              width = w.width ∙ sym f.counts.width;
              height = w.height ∙ sym f.counts.height;
              hexes = w.hexes ∙ sym hexes_kept;
              columns = w.columns ∙ sym f.counts.columns;
              count = w.count ∙ sym count_kept;
              units = w.units ∙ sym units_at_kept;
              desk = w.desk ∙ sym desk_at_kept;
              players = w.players ∙ sym named_kept;
            };
        fits = rw f.long l.fits;
      }

-- a position that differs from another only from the units' records on, as where a unit or the desk was written
pub record Behind (p q : List ℕ) : Type 0 where
  pub long : length q ≡ length p
  pub before : (i : ℕ) → i < units_at p + units_head → byte q i ≡ byte p i

pub behind_refl : (p : List ℕ) → Behind p p
behind_refl p = record { long = refl; before = λ i l. refl }

pub behind_set : {p q : List ℕ} (i x : ℕ) → units_at p + units_head ≤ i → Behind p q → Behind p (set q i x)
behind_set {p} {q} i x l f =
    record {
      long = length-set q i x ∙ f.long;
      before = λ k m. get_or-set_other q i k x 0 (λ e. omega arith) ∙ f.before k m;
    }

module _ {p q : List ℕ} (f : Behind p q) where
  pub behind_bodies : Bodies p q
  unfolding units_at map_at
  behind_bodies = record { contents = λ i l. f.before i (omega arith); same = λ i _ l. f.before i l }

  pub behind_front : Front p q
  unfolding units_at map_at
  behind_front = record { long = f.long; contents = λ i l. f.before i (omega arith); counts = bodies_counts behind_bodies }

pub behind_trans : {p q r : List ℕ} → Behind p q → Behind q r → Behind p r
behind_trans f g =
    record {
      long = g.long ∙ f.long;
      before = λ i l. g.before i (omega (arith, units_at_kept (behind_front f))) ∙ f.before i l;
    }
