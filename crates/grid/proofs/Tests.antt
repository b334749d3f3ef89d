-- What the map's tests say: whether a number is one of 1 to another, a hex on the map, a place on the map.
-- Assumes nothing.
use Rattle.std.specs.Prelude.{Option, Some, None}
use mathlib.Core.Path.{◌≡◌, refl}
use mathlib.Core.Bool.{Bool, true, false, cond, ◌&&◌}
use Prim.Native.Nat.{ℕ, ◌-◌, ◌+◌, ◌*◌, ◌≤◌, ◌<◌}
use native.Mathlib.Omega.{arith}
use borrow.Author.Tests.{ltb-true, leb-true, lt-ltb, le-leb}
use lib.Dec.{leb, ltb}
use Rattle.grid.specs.Map.{On, one_to, on_map, Place, hex_at}

-- the parts of a test
pub both_yes : (a b : Bool) → (a && b) ≡ true → (a ≡ true) × (b ≡ true)
both_yes true b e = (refl, e)
both_yes false b e = let z : ◌≡◌ {A = ℕ} 0 1 = cc in absurd (omega arith)

pub one_to_lem : (n most : ℕ) → one_to n most ≡ true → (1 ≤ n) × (n ≤ most)
one_to_lem n most e =
    let p = both_yes (leb 1 n) (leb n most) e in
    (leb-true 1 n p.0, leb-true n most p.1)

-- the test for a hex of a map, and the facts
pub on_facts : (w h a : ℕ) → on_map w h a ≡ true → On w h a
unfolding on_map
on_facts w h a e =
    let p = both_yes (one_to w 64) (one_to h 64 && ltb a (w * h)) e in
    let q = both_yes (one_to h 64) (ltb a (w * h)) p.1 in
    let u = one_to_lem w 64 p.0 in
    let v = one_to_lem h 64 q.0 in
    record { wide = u.0; wide64 = u.1; high = v.0; high64 = v.1; below = ltb-true a (w * h) q.1 }

pub on_test : (w h a : ℕ) → On w h a → on_map w h a ≡ true
unfolding on_map
on_test w h a o = simp (le-leb _ _ o.wide, le-leb _ _ o.wide64, le-leb _ _ o.high, le-leb _ _ o.high64, lt-ltb _ _ o.below)

-- what is found under a test is found because the test holds
pub under : (t : Bool) (x : Option ℕ) {b : ℕ} → cond t x None ≡ Some b → (t ≡ true) × (x ≡ Some b)
under true x e = (refl, e)
under false x e = let z : ◌≡◌ {A = ℕ} 0 1 = cc in absurd (omega arith)

-- the hex b is found at a place
pub record Found (w h : ℕ) (p : Place) (b : ℕ) : Type 0 where
  pub left : 1 ≤ p.0
  pub right : p.0 ≤ w
  pub top : 1 ≤ p.1
  pub bottom : p.1 ≤ h
  pub is : b ≡ (p.1 - 1) * w + (p.0 - 1)

pub found : (w h : ℕ) (p : Place) (b : ℕ) → hex_at w h p ≡ Some b → Found w h p b
unfolding hex_at
found w h p b e =
    let t = under (one_to p.0 w && one_to p.1 h) (Some ((p.1 - 1) * w + (p.0 - 1))) e in
    let s = both_yes (one_to p.0 w) (one_to p.1 h) t.0 in
    let u = one_to_lem p.0 w s.0 in
    let v = one_to_lem p.1 h s.1 in
    let at : Some ((p.1 - 1) * w + (p.0 - 1)) ≡ Some b = t.1 in
    record { left = u.0; right = u.1; top = v.0; bottom = v.1; is = cc }

pub find : {w h c r : ℕ} → c < w → r < h → hex_at w h (c + 1, r + 1) ≡ Some (r * w + c)
unfolding hex_at
find {w} {h} {c} {r} p q =
    let ec : c + 1 - 1 ≡ c = omega arith in
    let er : r + 1 - 1 ≡ r = omega arith in
    simp (le-leb 1 (c + 1) (omega arith), le-leb (c + 1) w (omega arith), le-leb 1 (r + 1) (omega arith), le-leb (r + 1) h (omega arith), ec, er)
