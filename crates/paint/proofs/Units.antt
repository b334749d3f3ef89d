-- What one unit marks, by its cases; and that all units together mark what the region is to show.
-- Assumes nothing.
use Prim.Native.Nat.{ℕ, ◌+◌}
use mathlib.Core.Path.{◌≡◌, refl, sym, ap, subst, ◌∙◌}
use mathlib.Core.Bool.{Bool, true, false, not, ◌&&◌, ◌||◌, and-true, and-false, or-false, not-not}
use mathlib.Core.List.{List}
use native.Mathlib.Omega.{arith}
use lib.Dec.{eqb}
use lib.ListN.{replicate}
use borrow.Author.Tests.{eq-eqb, ne_eqb}
use Rattle.grid.specs.declared.region.Region.{Region}
use Rattle.grid.specs.Region.{Inside, place_of, One, Away}
use Rattle.grid.proofs.Regions.{place-in}
use Rattle.position.specs.Tally.{any}
use Rattle.position.specs.Bits.{has}
use Rattle.position.specs.declared.View.{View}
use Rattle.position.specs.Layout.{byte, hex}
use Rattle.position.specs.Laid.{Laid}
use Rattle.position.specs.Board.{Board, board, force_of, enemy}
use Rattle.position.specs.Ground.{beside, is_at}
use Rattle.position.proofs.Tallies.{either, any_zero, any_step, any_same, any_never}
use Rattle.position.proofs.Sides.{is-at}
use Rattle.position.proofs.Cells.{byte_empty}
use Rattle.field.specs.Scene.{Scene, scene, force_in}
use Rattle.field.specs.Zone.{stands_on, vacant, own_on, holds, supply_unit_on, enemy_on, holds_enemy, enemy_zone}
use Rattle.field.proofs.Zones.{force_in_lem, stands_off, own_off, enemy_off}
use Rattle.paint.specs.Paint.{
  Mark,
  in_zone,
  by_enemy,
  by_own,
  by_depot,
  by_any,
  spare,
  bit,
  zone_mark,
  mark_holds,
  Marked,
  Shows,
  casts_against,
  covers,
  zone_by,
  mark_by,
  Stamp,
  Adds,
  only,
  reaches,
  part,
  stands,
  says,
  says_below,
}
use Rattle.paint.proofs.Inks.{has_none}
use Rattle.paint.proofs.Adding.{also}
use Rattle.paint.proofs.Casting.{zone_units}

-- whether a unit's force is Enemy, as it was asked
pub enemy_told : (b : Board) (f u : ℕ) {g : ℕ} {r t : Bool} → g ≡ force_of b u → r ≡ enemy b f g → r ≡ t → (scene b).enemy f (force_in (scene b) u) ≡ t
enemy_told b f u e q z = ap (enemy b f) (sym (e ∙ force_in_lem b u)) ∙ sym q ∙ z

-- the mark that a zone is stamped with
pub zone_stamp : Stamp 1
zone_stamp = record { mark = in_zone; is = refl }

-- what the marks of a hex say
module _ {s : Scene} {f h m : ℕ} (k : Marked s f h m) where
  pub marked_zone : has 1 m ≡ enemy_zone s f h
  unfolding mark_holds
  marked_zone = k.each in_zone

  pub marked_enemy : has 2 m ≡ holds_enemy s f h
  unfolding mark_holds
  marked_enemy = k.each by_enemy

  pub marked_own : has 4 m ≡ holds s f h
  unfolding mark_holds
  marked_own = k.each by_own

  pub marked_depot : has 8 m ≡ any (supply_unit_on s f h) s.count
  unfolding mark_holds
  marked_depot = k.each by_depot

  pub marked_held : has 16 m ≡ not (vacant s h)
  unfolding mark_holds
  marked_held = k.each by_any

  pub marked_spare : has 32 m ≡ false
  unfolding mark_holds
  marked_spare = k.each spare

module _ (s : Scene) (f u : ℕ) where
  -- each mark by its tests
  pub shown_any : (h : ℕ) → mark_by s f by_any h u ≡ eqb (s.hex u) h
  unfolding mark_by stands_on
  shown_any h = refl

  pub shown_enemy : s.enemy f (force_in s u) ≡ true → (h : ℕ) → mark_by s f by_enemy h u ≡ eqb (s.hex u) h
  unfolding mark_by enemy_on stands_on
  shown_enemy e h = simp (e, and-true)

  pub shown_friend : s.enemy f (force_in s u) ≡ false → (h : ℕ) → mark_by s f by_enemy h u ≡ false
  unfolding mark_by enemy_on
  shown_friend e h = simp (e, and-false)

  pub shown_own : force_in s u ≡ f → (h : ℕ) → mark_by s f by_own h u ≡ eqb (s.hex u) h
  unfolding mark_by own_on stands_on
  shown_own e h = simp (eq-eqb (force_in s u) f e, and-true)

  pub shown_other : (force_in s u ≡ f → ⊥) → (h : ℕ) → mark_by s f by_own h u ≡ false
  unfolding mark_by own_on
  shown_other e h = simp (ne_eqb (force_in s u) f e, and-false)

  pub shown_depot : force_in s u ≡ f → s.kind u ≡ 5 → (h : ℕ) → mark_by s f by_depot h u ≡ eqb (s.hex u) h
  unfolding mark_by supply_unit_on own_on stands_on
  shown_depot e k h = simp (eq-eqb (force_in s u) f e, eq-eqb (s.kind u) 5 k, and-true)

  pub shown_no_depot : (s.kind u ≡ 5 → ⊥) → (h : ℕ) → mark_by s f by_depot h u ≡ false
  unfolding mark_by supply_unit_on
  shown_no_depot k h = simp (ne_eqb (s.kind u) 5 k, and-false)

  pub shown_other_depot : (force_in s u ≡ f → ⊥) → (h : ℕ) → mark_by s f by_depot h u ≡ false
  unfolding mark_by supply_unit_on own_on
  shown_other_depot e h = simp (ne_eqb (force_in s u) f e, and-false)

  pub shown_casts : casts_against s f u ≡ true → (h : ℕ) → mark_by s f in_zone h u ≡ any (covers s.map (s.hex u) h) 6
  unfolding mark_by zone_by
  shown_casts e h = simp e

  pub shown_no_cast : casts_against s f u ≡ false → (h : ℕ) → mark_by s f in_zone h u ≡ false
  unfolding mark_by zone_by
  shown_no_cast e h = simp e

  -- a unit's part by one mark
  module _ (j : Mark) where
    pub part_none : ((h : ℕ) → mark_by s f j h u ≡ false) → (k : Mark) (h : ℕ) → part s f j u k h ≡ false
    unfolding part
    part_none e k h = simp (e h, and-false)

    pub part_only : {n : ℕ} → n ≡ s.hex u → ((h : ℕ) → mark_by s f j h u ≡ eqb (s.hex u) h) → (k : Mark) (h : ℕ) → only (bit j) n k h ≡ part s f j u k h
    unfolding part only
    part_only e q k h = ap (λ (b : Bool). eqb (bit k) (bit j) && b) (ap (λ (n : ℕ). eqb n h) e ∙ sym (q h))

  pub part_reaches : {n : ℕ} → n ≡ s.hex u → casts_against s f u ≡ true → (k : Mark) (h : ℕ) → reaches s.map n 6 k h ≡ part s f in_zone u k h
  unfolding part reaches
  part_reaches {n} e c k h =
      ap (λ (b : Bool). eqb (bit k) zone_mark && b) (ap (λ (x : ℕ). any (covers s.map x h) 6) e ∙ sym (shown_casts c h))

  -- the parts make up the whole
  pub stands_parts :
      (k : Mark) (h : ℕ) → also (also (also (part s f by_any u) (part s f by_enemy u)) (part s f by_own u)) (part s f by_depot u) k h ≡ stands s f u k h
  unfolding also part stands mark_by
  stands_parts in_zone h = refl
  stands_parts by_enemy h = or-false (mark_by s f by_enemy h u)
  stands_parts by_own h = or-false (mark_by s f by_own h u)
  stands_parts by_depot h = or-false (mark_by s f by_depot h u)
  stands_parts by_any h = refl
  stands_parts spare h = refl

  pub says_parts : (k : Mark) (h : ℕ) → also (stands s f u) (part s f in_zone u) k h ≡ says s f u k h
  unfolding also part stands says
  says_parts in_zone h = or-false (mark_by s f in_zone h u)
  says_parts by_enemy h = refl
  says_parts by_own h = refl
  says_parts by_depot h = refl
  says_parts by_any h = refl
  says_parts spare h = refl

  -- a unit away from the region marks nothing in it
  module _ {at : Region} (a : Away s.map.width s.map.height at (s.hex u)) (h : ℕ) (i : Inside s.map.width s.map.height at h) where
    other : s.hex u ≡ h → ⊥
    other e = a.other (subst (Inside s.map.width s.map.height at) (sym e) i)

    uncovered : (d : ℕ) → covers s.map (s.hex u) h d ≡ false
    unfolding covers
    uncovered d =
        either (is_at (beside s.map (s.hex u) d) h)
        (λ e. absurd (a.apart h d i (is-at (beside s.map (s.hex u) d) h e)))
        (λ e. simp e)

    pub away_says : (k : Mark) → says s f u k h ≡ false
    unfolding says mark_by zone_by supply_unit_on
    away_says in_zone = simp (any_never (covers s.map (s.hex u) h) 6 (λ d l. uncovered d), and-false)
    away_says by_enemy = enemy_off s f h u other
    away_says by_own = own_off s f h u other
    away_says by_depot = simp (own_off s f h u other)
    away_says by_any = stands_off s h u other
    away_says spare = refl

-- the same by the view's width and height
pub unit_away :
    {p : List ℕ} {v : View} {at : Region} → Laid p v → (f u x : ℕ) → x ≡ hex p u → Away v.width v.height at x
    → (k : Mark) (h : ℕ) → Inside v.width v.height at h → says (scene (board p)) f u k h ≡ false
unit_away {p} {v} {at} l f u x e a k h i =
    let w = l.view.width in
    let t = l.view.height in
    away_says (scene (board p)) f u (rw (w, t, e) at a) h (rw (w, t) at i) k

module _ (s : Scene) (f : ℕ) where
  -- one unit after the other
  pub below_none : (k : Mark) (h : ℕ) → says_below s f 0 k h ≡ false
  unfolding says_below
  below_none k h = any_zero (mark_by s f k h)

  pub below_step : (u : ℕ) (k : Mark) (h : ℕ) → also (says_below s f u) (says s f u) k h ≡ says_below s f (u + 1) k h
  unfolding also says says_below
  below_step u k h = sym (any_step (mark_by s f k h) u)

  -- all of them
  pub all_shown : (k : Mark) (h : ℕ) → says_below s f s.count k h ≡ mark_holds s f k h
  unfolding says_below mark_by mark_holds holds_enemy holds vacant
  all_shown in_zone h = any_same _ (zone_by s f h) s.count (λ u l. refl) ∙ zone_units s f h
  all_shown by_enemy h = any_same _ (enemy_on s f h) s.count (λ u l. refl)
  all_shown by_own h = any_same _ (own_on s f h) s.count (λ u l. refl)
  all_shown by_depot h = any_same _ (supply_unit_on s f h) s.count (λ u l. refl)
  all_shown spare h = any_never (λ u. false) s.count (λ u l. refl)
  all_shown by_any h = any_same _ (stands_on s h) s.count (λ u l. refl) ∙ sym (not-not (any (stands_on s h) s.count))

  -- on an empty buffer they show the region
  pub painted : {at : Region} (n : ℕ) {c : ℕ} {l m : List ℕ} → l ≡ replicate n 0 → c ≡ s.count → Adds s.map.width s.map.height at (says_below s f c) l m → Shows s f at m
  painted {at} n {c} {l} {m} e q a =
      record {
        each = λ h i. record {
          each = λ k.
              let o = place_of s.map.width at h in
              a.each k h i
              ∙ ap (λ (b : Bool). says_below s f c k h || b) (ap (λ (x : List ℕ). has (bit k) (byte x o)) e ∙ ap (has (bit k)) (byte_empty n o) ∙ has_none k)
              ∙ or-false (says_below s f c k h)
              ∙ ap (λ (x : ℕ). says_below s f x k h) q
              ∙ all_shown k h;
        };
      }

-- the one byte of a region of one hex has the marks of that hex
pub one_marked :
    {s : Scene} {f : ℕ} {at : Region} {l : List ℕ} {w tall x h r : ℕ} → w ≡ s.map.width → tall ≡ s.map.height → Shows s f at l
    → One w tall x at → r ≡ byte l 0 → x ≡ h → Marked s f h r
one_marked {s} {f} {at} {l} {w} {tall} {x} {h} {r} t t' k n e q =
    let o = k.each x (rw (t, t') at n.here) in
    let p : place_of w at x ≡ 0 = omega (arith, place-in n.here, n.size) in
    let z : place_of s.map.width at x ≡ 0 = ap (λ (m : ℕ). place_of m at x) (sym t) ∙ p in
    record { each = λ j. ap (has (bit j)) (e ∙ ap (λ (m : ℕ). byte l m) (sym z)) ∙ o.each j ∙ ap (mark_holds s f j) q }
