-- A step to a neighbour, on columns and rows: what `neighbour_of` says, both ways, in one form for all directions and columns.
-- Assumes nothing.
use Rattle.std.specs.Prelude.{Some}
use mathlib.Core.Path.{◌≡◌, refl, sym, ◌∙◌, ap, ap₂}
use mathlib.Core.Bool.{cond}
use Prim.Native.Nat.{ℕ, zero, suc, ◌+◌, ◌-◌, ◌*◌, ◌/◌, ◌%◌, ◌≤◌, ◌<◌}
use native.Mathlib.Nat.{add-zero}
use native.Mathlib.Decide.{dec_lt}
use native.Mathlib.Omega.{arith}
use lib.Dec.{ltb}
use Rattle.grid.specs.Map.{On, on_map, Place, hex_at, towards, beside_even, beside_odd, beside_of, neighbour_of}
use Rattle.grid.specs.Walk.{depth}
use Rattle.grid.proofs.Arith.{column_of_lem, row_of, inside}
use Rattle.grid.proofs.Tests.{on_facts, on_test, under, Found, found, find}

-- the two tables as one: an odd column lies half a hex lower
abbrev pub one_table : ℕ → ℕ → ℕ → ℕ → Place
one_table low x y d = towards d (x, y - 1) (x + 1, y - 1 + low) (x + 1, y + low) (x, y + 1) (x - 1, y + low) (x - 1, y - 1 + low)

pub one_table_lem : (low x y d : ℕ) → low < 2 → 1 ≤ y → beside_of low x y d ≡ one_table low x y d
unfolding beside_of beside_even beside_odd
one_table_lem zero x y d l p = simp add-zero refl
one_table_lem (suc zero) x y d l p = let e : y - 1 + 1 ≡ y = omega arith in rw e
one_table_lem (suc (suc n)) x y d l p = absurd (omega arith)

-- what is no direction leads nowhere
pub nowhere : (low x y d : ℕ) → low < 2 → 1 ≤ y → 6 ≤ d → beside_of low x y d ≡ (0, 0)
nowhere low x y d l p q =
    let e : d ≡ suc (suc (suc (suc (suc (suc (d - 6)))))) = omega arith in
    one_table_lem low x y d l p ∙ rw e

-- The way that a direction leads: columns to the right, counted from one to the left, and half rows down, counted from two up.
abbrev way : ℕ → Place
way d = towards d (1, 0) (2, 1) (2, 3) (1, 4) (0, 3) (0, 1)

unfoldable pub aside : ℕ → ℕ
aside d = (way d).0

unfoldable pub down : ℕ → ℕ
down d = (way d).1

-- the direction that leads such a way
abbrev heading : ℕ → ℕ → ℕ
heading zero v = cond (ltb v 2) 5 4
heading (suc zero) v = cond (ltb v 2) 0 3
heading (suc (suc u)) v = cond (ltb v 2) 1 2

-- what is known of each of the six ways
pub record Way (d u v : ℕ) : Type 0 where
  pub odd : (u + v) % 2 ≡ 1
  pub most : u ≤ 2
  pub low : u + v ≤ 5
  pub left : v ≤ u + 3
  pub right : u ≤ v + 1
  pub moves : v ≡ 2 → ⊥
  pub headed : heading u v ≡ d
  pub back_aside : aside ((d + 3) % 6) + u ≡ 2
  pub back_down : down ((d + 3) % 6) + v ≡ 4

pub ways : (d : ℕ) → d < 6 → Way d (aside d) (down d)
unfolding aside down
ways zero l = omega arith
ways (suc zero) l = omega arith
ways (suc (suc zero)) l = omega arith
ways (suc (suc (suc zero))) l = omega arith
ways (suc (suc (suc (suc zero)))) l = omega arith
ways (suc (suc (suc (suc (suc zero))))) l = omega arith
ways (suc (suc (suc (suc (suc (suc d)))))) l = absurd (omega arith)

-- a place is its column and its row
same_place : {x x' y y' : ℕ} → x ≡ x' → y ≡ y' → ◌≡◌ {A = Place} (x, y) (x', y')
same_place p q = ap₂ (λ (x y : ℕ). (x, y)) p q

-- where a direction leads, in one formula
beside_is : (c r d : ℕ) → d < 6 → beside_of (c % 2) (c + 1) (r + 1) d ≡ (c + aside d, (depth c r + down d) / 2)
unfolding aside down
beside_is c r d l = one_table_lem (c % 2) (c + 1) (r + 1) d (omega arith) (omega arith) ∙ go d l
  where
    go : (d : ℕ) → d < 6 → one_table (c % 2) (c + 1) (r + 1) d ≡ (c + (way d).0, (depth c r + (way d).1) / 2)
    go zero l = same_place (omega arith) (omega arith)
    go (suc zero) l = same_place (omega arith) (omega arith)
    go (suc (suc zero)) l = same_place (omega arith) (omega arith)
    go (suc (suc (suc zero))) l = same_place (omega arith) (omega arith)
    go (suc (suc (suc (suc zero)))) l = same_place (omega arith) (omega arith)
    go (suc (suc (suc (suc (suc zero))))) l = same_place (omega arith) (omega arith)
    go (suc (suc (suc (suc (suc (suc d)))))) l = absurd (omega arith)

-- a direction leads from column c and row r to column c1 and row r1
pub record Goes (d c r c1 r1 : ℕ) : Type 0 where
  pub dir : d < 6
  pub over : c1 + 1 ≡ c + aside d
  pub deeper : depth c1 r1 + 2 ≡ depth c r + down d

-- the opposite direction leads back, and no two lead the same way
pub goes_back : {d c r c1 r1 : ℕ} → Goes d c r c1 r1 → Goes ((d + 3) % 6) c1 r1 c r
goes_back {d} g = let k = ways d g.dir in omega arith

pub one_way : {d e c r c1 r1 : ℕ} → Goes d c r c1 r1 → Goes e c r c1 r1 → d ≡ e
one_way {d} {e} g g' =
    let u : aside d ≡ aside e = omega (arith, g.over, g'.over) in
    let v : down d ≡ down e = omega (arith, g.deeper, g'.deeper) in
    sym (ways d g.dir).headed ∙ ap₂ heading u v ∙ (ways e g'.dir).headed

-- a step from hex a to hex b
pub record Stepped (w h a d b : ℕ) : Type 0 where
  pub from : On w h a
  pub to : On w h b
  pub goes : Goes d (a % w) (a / w) (b % w) (b / w)

-- a hex found beside another lies where the direction leads
goes_to_lem : (w h c r d b : ℕ) → Found w h (beside_of (c % 2) (c + 1) (r + 1) d) b → Dec (d < 6) → Goes d c r (b % w) (b / w)
goes_to_lem w h c r d b f (no n) =
    absurd (omega (arith, f.left, ap (λ (p : Place). p.0) (nowhere (c % 2) (c + 1) (r + 1) d (omega arith) (omega arith) (omega arith))))
goes_to_lem w h c r d b f (yes l) =
    let p = beside_of (c % 2) (c + 1) (r + 1) d in
    let s : p.0 - 1 < w = omega (arith, f.left, f.right) in
    let x = ap (λ (p : Place). p.0) (beside_is c r d l) in
    let y = ap (λ (p : Place). p.1) (beside_is c r d l) in
    let ec : b % w ≡ p.0 - 1 = ap (λ (n : ℕ). n % w) f.is ∙ column_of_lem (p.1 - 1) s in
    let er : b / w ≡ p.1 - 1 = ap (λ (n : ℕ). n / w) f.is ∙ row_of (p.1 - 1) s in
    let k = ways d l in
    record { dir = l; over = omega arith; deeper = omega arith }

pub stepped : (w h a d b : ℕ) → neighbour_of w h a d ≡ Some b → Stepped w h a d b
unfolding neighbour_of
stepped w h a d b e =
    let t = under (on_map w h a) _ e in
    let o = on_facts w h a t.0 in
    let f = found w h (beside_of (a % w % 2) (a % w + 1) (a / w + 1) d) b t.1 in
    record {
      from = o;
      to = rw f.is (inside o (omega (arith, f.left, f.right)) (omega (arith, f.top, f.bottom)));
      goes = goes_to_lem w h (a % w) (a / w) d b f (dec_lt d 6);
    }

-- and back: where a direction leads, there lies the neighbour
goes_there : {d c r c1 r1 : ℕ} → Goes d c r c1 r1 → beside_of (c % 2) (c + 1) (r + 1) d ≡ (c1 + 1, r1 + 1)
goes_there {d} {c} {r} g = beside_is c r d g.dir ∙ same_place (omega arith) (omega arith)

pub steps : (w h a d c1 r1 : ℕ) → On w h a → c1 < w → r1 < h → Goes d (a % w) (a / w) c1 r1 → neighbour_of w h a d ≡ Some (r1 * w + c1)
unfolding neighbour_of
steps w h a d c1 r1 o p q g =
    simp (on_test w h a o) (ap (hex_at w h) (goes_there g) ∙ find p q)
