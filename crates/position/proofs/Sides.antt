-- Laws of the ground: which side lies between two hexes, and from both of them the same; where a step leads; where a unit may stand.
-- Assumes nothing.
use Rattle.std.specs.Prelude.{Option, Some, None}
use Prim.Native.Nat.{ℕ, zero, suc, ◌+◌, ◌-◌, ◌*◌, ◌/◌, ◌%◌, ◌≤◌, ◌<◌}
use mathlib.Core.Path.{◌≡◌, refl, sym, ap, ap₂, ◌∙◌}
use mathlib.Core.List.{List}
use mathlib.Core.Bool.{Bool, true, false, not, cond, and-false}
use native.Mathlib.Omega.{arith}
use native.Mathlib.Nat.{one-mul, mul-le-mul_right}
use native.Mathlib.Decide.{dec_lt}
use lib.Dec.{ltb, eqb}
use borrow.Author.Tests.{lt-ltb, le-ltb, le-leb, lt-leb, eqb-true, eq-eqb, ne_eqb}
use Rattle.grid.specs.Map.{On, neighbour_of}
use Rattle.grid.proofs.Laws.{opposite, direction, on_map_lem}
use Rattle.position.specs.declared.View.{View}
use Rattle.position.specs.Layout.{ViewOf, hexes}
use Rattle.position.specs.Laid.{Laid}
use Rattle.position.specs.Tally.{any}
use Rattle.position.specs.Board.{Board, Map, ground}
use Rattle.position.specs.Ground.{beside, stored, stored_at, side, blocked_side, next, is_at, joined, standable}
use Rattle.position.proofs.Shapes.{sizes}
use Rattle.position.proofs.Tallies.{not_both, same_or}

-- the neighbour, by the view's width and height
pub beside_view : {p : List ℕ} {v : View} → ViewOf p v → (h d : ℕ) → neighbour_of v.width v.height h d ≡ beside (ground p) h d
beside_view o h d = ap₂ (λ (w t : ℕ). neighbour_of w t h d) o.width o.height

module _ (m : Map) (h : ℕ) where
  -- the three sides that a hex keeps
  pub stored_north : (d : ℕ) → d ≡ 0 → stored m h d ≡ m.sides h % 4
  unfolding stored
  stored_north d e = rw e refl

  pub stored_north_east : (d : ℕ) → d ≡ 1 → stored m h d ≡ m.sides h / 4 % 4
  unfolding stored
  stored_north_east d e = rw e refl

  pub stored_south_east : (d : ℕ) → 2 ≤ d → stored m h d ≡ m.sides h / 16 % 4
  unfolding stored
  stored_south_east zero l = absurd (omega arith)
  stored_south_east (suc zero) l = absurd (omega arith)
  stored_south_east (suc (suc d)) l = refl

  module _ (d : ℕ) where
    -- a side is kept by the hex or by the neighbour beyond it
    pub side_own : d < 3 → side m h d ≡ stored m h d
    unfolding side
    side_own l = simp (lt-ltb d 3 l)

    side_other : 3 ≤ d → side m h d ≡ stored_at m (beside m h d) d
    unfolding side
    side_other l = simp (le-ltb d 3 l)

    pub side_beyond : (n : ℕ) → 3 ≤ d → beside m h d ≡ Some n → side m h d ≡ stored m n (d - 3)
    unfolding stored_at
    side_beyond n l e = side_other l ∙ ap (λ (b : Option ℕ). stored_at m b d) e

    -- kept by one of the two hexes, in one of three directions
    pub side_kept : (n : ℕ) → d < 6 → beside m h d ≡ Some n → stored m (cond (ltb d 3) h n) (d % 3) ≡ side m h d
    side_kept n l e = at (dec_lt d 3)
      where
        at : Dec (d < 3) → stored m (cond (ltb d 3) h n) (d % 3) ≡ side m h d
        at (yes k) = let q : d % 3 ≡ d = omega arith in rw (lt-ltb d 3 k, q) (sym (side_own k))
        at (no k) = let q : d % 3 ≡ d - 3 = omega arith in rw (le-ltb d 3 (omega arith), q) (sym (side_beyond n (omega arith) e))

    pub side_edge : 3 ≤ d → beside m h d ≡ None → side m h d ≡ 0
    unfolding stored_at
    side_edge l e = side_other l ∙ ap (λ (b : Option ℕ). stored_at m b d) e

    -- over a blocked side there is no step, over any other it leads to the neighbour
    pub next_blocked : side m h d ≡ blocked_side → next m h d ≡ None
    unfolding next
    next_blocked e = simp (eq-eqb (side m h d) blocked_side e)

    pub next_beside : (side m h d ≡ blocked_side → ⊥) → next m h d ≡ beside m h d
    unfolding next
    next_beside e = simp (ne_eqb (side m h d) blocked_side e)

-- a side is one side, seen from either hex
pub side_symmetric : (m : Map) (h d n : ℕ) → beside m h d ≡ Some n → side m h d ≡ side m n ((d + 3) % 6)
side_symmetric m h d n e = at (dec_lt d 3)
  where
    at : Dec (d < 3) → side m h d ≡ side m n ((d + 3) % 6)
    at (yes l) =
        let o = opposite m.width m.height h d n e in
        side_own m h d l ∙ sym (side_beyond m n ((d + 3) % 6) h (omega arith) o ∙ ap (stored m h) (omega arith))
    at (no k) =
        let l = direction m.width m.height h d n e in
        side_beyond m h d n (omega arith) e ∙ sym (side_own m n ((d + 3) % 6) (omega arith) ∙ ap (stored m n) (omega arith))

-- a step in direction d leads from hex h to hex x
unfoldable pub reaches : Map → ℕ → ℕ → ℕ → Bool
reaches m h x d = is_at (next m h d) x

pub joined_is : (m : Map) (h x : ℕ) → joined m h x ≡ any (reaches m h x) 6
unfolding joined reaches
joined_is m h x = refl

module _ (b : Board) (h : ℕ) where
  -- off the map, on water, and on land or coast
  pub standable_off : b.map.hexes ≤ h → standable b h ≡ false
  unfolding standable
  standable_off l = simp (le-ltb h b.map.hexes l)

  pub standable_sea : 1 < b.map.surface h → standable b h ≡ false
  unfolding standable
  standable_sea l = simp (lt-leb (b.map.surface h) 1 l, and-false)

  pub standable_land : h < b.map.hexes → b.map.surface h ≤ 1 → standable b h ≡ not (eqb (b.chart.cost (b.map.terrain h)) 0)
  unfolding standable
  standable_land l k = simp (lt-ltb h b.map.hexes l, le-leb (b.map.surface h) 1 k)

-- where a step leads, by the neighbour and the side
module _ {p : List ℕ} {v : View} (o : ViewOf p v) (a d : ℕ) where
  pub next_off : neighbour_of v.width v.height a d ≡ None → None ≡ next (ground p) a d
  next_off e =
      same_or (side (ground p) a d) blocked_side
      (λ z. sym (next_blocked (ground p) a d z))
      (λ z. sym (next_beside (ground p) a d z ∙ sym (beside_view o a d) ∙ e))

  pub next_at :
      {x : ℕ} → neighbour_of v.width v.height a d ≡ Some x → (side (ground p) a d ≡ blocked_side → ⊥) → Some x ≡ next (ground p) a d
  next_at e z = sym (next_beside (ground p) a d z ∙ sym (beside_view o a d) ∙ e)

-- what a test of a step tells of it
pub is-at : (r : Option ℕ) (x : ℕ) → is_at r x ≡ true → r ≡ Some x
unfolding is_at
is-at (Some y) x e = ap Some (eqb-true y x e)
is-at None x e = not_both false e refl

pub at_is : {r : Option ℕ} {x : ℕ} → r ≡ Some x → is_at r x ≡ true
unfolding is_at
at_is {x = x} e = rw e (eq-eqb x x refl)

-- there is no hex where there is one
pub off_at : {A : Type 0} {r : Option ℕ} {x : ℕ} → r ≡ None → r ≡ Some x → A
off_at p q = let z : ◌≡◌ {A = ℕ} 0 1 = cc in absurd (omega arith)

-- a step over an unblocked side leads to the neighbour, a hex of the map, in one of six directions
module _ (m : Map) (a d x : ℕ) (e : next m a d ≡ Some x) where
  pub unblocked : side m a d ≡ blocked_side → ⊥
  unblocked p = off_at (next_blocked m a d p) e

  pub next_over : beside m a d ≡ Some x
  next_over = sym (next_beside m a d unblocked) ∙ e

  pub next_on : On m.width m.height x
  next_on = on_map_lem m.width m.height a d x next_over

  pub next_dir : d < 6
  next_dir = direction m.width m.height a d x next_over

pub next_in_lem : {p : List ℕ} {v : View} → ViewOf p v → (a d x : ℕ) → next (ground p) a d ≡ Some x → x < v.hexes
unfolding hexes
next_in_lem {p} w a d x e = omega (arith, w.hexes, (next_on (ground p) a d x e).below)

-- the hexes of the view are those of a map of its width and height
pub area_view : {p : List ℕ} {v : View} → ViewOf p v → v.hexes ≡ v.width * v.height
unfolding hexes
area_view o = o.hexes ∙ sym (ap₂ ◌*◌ o.width o.height)

pub on_view : {p : List ℕ} {v : View} → Laid p v → (x : ℕ) → x < v.hexes → On v.width v.height x
on_view l x e =
    let s = sizes l in
    record {
      wide = s.width.low;
      wide64 = s.width.high;
      high = s.height.low;
      high64 = s.height.high;
      below = omega (arith, area_view l.view);
    }

-- and there is one, the first
pub on_first : {p : List ℕ} {v : View} → Laid p v → On v.width v.height 0
on_first {v = v} l =
    let s = sizes l in
    let m : 1 * v.height ≤ v.width * v.height = mul-le-mul_right v.height s.width.low in
    on_view l 0 (omega (arith, area_view l.view, one-mul v.height, s.height.low))
