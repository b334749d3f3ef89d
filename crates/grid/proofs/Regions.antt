-- Laws of regions: the place of a hex, which hexes a region has, and which are away from it.
-- Assumes nothing.
use Rattle.std.specs.Prelude.{Some}
use Prim.Native.Nat.{ℕ, zero, suc, ◌+◌, ◌-◌, ◌*◌, ◌/◌, ◌%◌, ◌≤◌, ◌<◌, max}
use mathlib.Core.Path.{◌≡◌, refl, sym, ap, ap₂, ◌∙◌}
use mathlib.Core.Bool.{Bool, true, false, ◌&&◌}
use native.Mathlib.Omega.{arith}
use native.Mathlib.Nat.{mod-lt, zero-mul, mul-le-mul_right, suc-mul, mul_comm, div-lt_iff_lt-mul, le-div_iff_mul-le}
use lib.Dec.{leb, ltb}
use borrow.Author.Tests.{ltb-true, leb-true, le-leb, lt-leb, lt-ltb, le-ltb}
use Rattle.grid.specs.declared.Spot.{Spot}
use Rattle.grid.specs.declared.region.Region.{Region}
use Rattle.grid.specs.Map.{On, on_map, neighbour_of}
use Rattle.grid.specs.Walk.{gap_of, depth, far, distance_of}
use Rattle.grid.specs.Spot.{SpotOf}
use Rattle.grid.specs.Region.{RegionOk, places_of, Inside, inside, place_of, place_in, HexOf, Alike, Whole, Round, Away, Before, Past}
use Rattle.grid.proofs.Arith.{number, column_of_lem, row_of}
use Rattle.grid.proofs.Arith as Map
use Rattle.grid.proofs.Tests.{both_yes, on_facts, on_test}
use Rattle.grid.proofs.Step.{Goes, stepped, steps}
use Rattle.grid.proofs.Spots.{spot_column, spot_row}
use Rattle.grid.proofs.Laws.{from_map}
use Rattle.grid.proofs.Close.{Close, far_close, beside_close}

-- a test's answer is not both
not_yes : ◌≡◌ {A = Bool} true false → ⊥
not_yes p = let z : ◌≡◌ {A = ℕ} 0 1 = cc in absurd (omega arith)

-- what has a number below a product of n is not below none
pub positive : (i n m : ℕ) → i < n * m → 1 ≤ n
positive i zero m l = absurd (omega (arith, zero-mul m))
positive i (suc n) m l = omega arith

module _ {w h : ℕ} {at : Region} {x : ℕ} (i : Inside w h at x) where
  -- the column and the row of a hex's place
  in_column : x % w + 8 - at.left < at.wide
  in_column = omega (arith, i.left, i.right)

  in_row : x / w + 8 - at.top < at.high
  in_row = omega (arith, i.top, i.bottom)

  place_column : place_of w at x % at.wide ≡ x % w + 8 - at.left
  unfolding place_of
  place_column = column_of_lem (x / w + 8 - at.top) in_column

  place_row : place_of w at x / at.wide ≡ x / w + 8 - at.top
  unfolding place_of
  place_row = row_of (x / w + 8 - at.top) in_column

  -- the place is one of the region's
  pub place-in : place_of w at x < places_of at
  unfolding place_of
  place-in =
      let r = x / w + 8 - at.top in
      let s : suc r * at.wide ≤ at.high * at.wide = mul-le-mul_right at.wide in_row in
      omega (arith, suc-mul r at.wide, mul_comm at.wide at.high, in_column)

-- two hexes have two places
pub place_one : {w h : ℕ} {at : Region} {x y : ℕ} → Inside w h at x → Inside w h at y → place_of w at x ≡ place_of w at y → x ≡ y
place_one {w} {h} {at} {x} {y} i j e =
    let c : x % w + 8 - at.left ≡ y % w + 8 - at.left =
    sym (place_column i) ∙ ap (λ (n : ℕ). n % at.wide) e ∙ place_column j in
    let r : x / w + 8 - at.top ≡ y / w + 8 - at.top =
    sym (place_row i) ∙ ap (λ (n : ℕ). n / at.wide) e ∙ place_row j in
    let ec : x % w ≡ y % w = omega (arith, c, i.left, j.left) in
    let er : x / w ≡ y / w = omega (arith, r, i.top, j.top) in
    sym (number w x) ∙ ap₂ (λ (m n : ℕ). m * w + n) er ec ∙ number w y

-- and a place's column and row are the hex's, counted from the region's first
pub placed :
    {w h : ℕ} {at : Region} {x i : ℕ} → Inside w h at x → place_of w at x ≡ i
    → (i % at.wide + at.left ≡ x % w + 8) × (i / at.wide + at.top ≡ x / w + 8)
placed {w} {h} {at} {x} {i} k e =
    let c : i % at.wide ≡ x % w + 8 - at.left = ap (λ (n : ℕ). n % at.wide) (sym e) ∙ place_column k in
    let r : i / at.wide ≡ x / w + 8 - at.top = ap (λ (n : ℕ). n / at.wide) (sym e) ∙ place_row k in
    (omega (arith, c, k.left), omega (arith, r, k.top))

-- so a place whose column and row lie on the map has the hex there
pub hex_there :
    {w h : ℕ} {at : Region} {i : ℕ} → On w h 0 → i < places_of at → 8 ≤ i % at.wide + at.left → i % at.wide + at.left < w + 8
    → 8 ≤ i / at.wide + at.top → i / at.wide + at.top < h + 8
    → HexOf w h at i (Some ((i / at.wide + at.top - 8) * w + (i % at.wide + at.left - 8)))
unfolding place_of
hex_there {w} {h} {at} {i} o l a b c d =
    let n = at.wide in
    let q = i % n + at.left - 8 in
    let r = i / n + at.top - 8 in
    let x = r * w + q in
    let ql : q < w = omega arith in
    let rl : r < h = omega arith in
    let ec : x % w ≡ q = column_of_lem r ql in
    let er : x / w ≡ r = row_of r ql in
    let cl : i % n < n = mod-lt i (positive i at.wide at.high l) in
    let rk : i / n < at.high = (div-lt_iff_lt-mul (positive i at.wide at.high l)).1 (omega (arith, mul_comm at.wide at.high)) in
    let ep : (x / w + 8 - at.top) * n + (x % w + 8 - at.left) ≡ i =
    ap₂ (λ (m k : ℕ). m * n + k) (let z : x / w + 8 - at.top ≡ i / n = omega arith in z) (let z : x % w + 8 - at.left ≡ i % n = omega arith in z)
    ∙ number n i
    in (
      record {
        on = Map.inside o ql rl;
        left = omega arith;
        right = omega arith;
        top = omega arith;
        bottom = omega arith;
      },
      ep,
    )

-- the test is true exactly of the hexes that the region has
module _ (w h : ℕ) (at : Region) (x : ℕ) where
  pub inside_facts : inside w h at x ≡ true → Inside w h at x
  unfolding inside
  inside_facts e =
      let left = leb at.left (x % w + 8) in
      let right = ltb (x % w + 8) (at.left + at.wide) in
      let top = leb at.top (x / w + 8) in
      let bottom = ltb (x / w + 8) (at.top + at.high) in
      let a = both_yes (on_map w h x) ((left && right) && (top && bottom)) e in
      let b = both_yes (left && right) (top && bottom) a.1 in
      let c = both_yes left right b.0 in
      let d = both_yes top bottom b.1 in
      record {
        on = on_facts w h x a.0;
        left = leb-true at.left (x % w + 8) c.0;
        right = ltb-true (x % w + 8) (at.left + at.wide) c.1;
        top = leb-true at.top (x / w + 8) d.0;
        bottom = ltb-true (x / w + 8) (at.top + at.high) d.1;
      }

  pub inside_test : Inside w h at x → inside w h at x ≡ true
  unfolding inside
  inside_test i =
      simp (
        on_test w h x i.on,
        le-leb at.left (x % w + 8) i.left,
        lt-ltb (x % w + 8) (at.left + at.wide) i.right,
        le-leb at.top (x / w + 8) i.top,
        lt-ltb (x / w + 8) (at.top + at.high) i.bottom,
      )

  pub inside_not : inside w h at x ≡ false → Inside w h at x → ⊥
  inside_not e i = let z : ◌≡◌ {A = Bool} true false = sym (inside_test i) ∙ e in not_yes z

  -- the place of a number by the test
  pub place_some : Inside w h at x → place_in w h at x ≡ place_of w at x
  unfolding place_in
  place_some i = simp (inside_test i)

  pub place_none : inside w h at x ≡ false → place_in w h at x ≡ places_of at
  unfolding place_in
  place_none e = simp e

  -- what is no hex of the map
  pub off_map_lem : on_map w h x ≡ false → inside w h at x ≡ false
  unfolding inside
  off_map_lem e = simp e

  -- a hex of the map, test by test
  module _ (o : On w h x) where
    pub outside_left : x % w + 8 < at.left → inside w h at x ≡ false
    unfolding inside
    outside_left l = simp (on_test w h x o, lt-leb at.left (x % w + 8) l)

    module _ (a : at.left ≤ x % w + 8) where
      pub outside_right : at.left + at.wide ≤ x % w + 8 → inside w h at x ≡ false
      unfolding inside
      outside_right l = simp (on_test w h x o, le-leb at.left (x % w + 8) a, le-ltb (x % w + 8) (at.left + at.wide) l)

      module _ (b : x % w + 8 < at.left + at.wide) where
        pub outside_top : x / w + 8 < at.top → inside w h at x ≡ false
        unfolding inside
        outside_top l =
            simp (
              on_test w h x o,
              le-leb at.left (x % w + 8) a,
              lt-ltb (x % w + 8) (at.left + at.wide) b,
              lt-leb at.top (x / w + 8) l,
            )

        pub by_bottom : at.top ≤ x / w + 8 → inside w h at x ≡ ltb (x / w + 8) (at.top + at.high)
        unfolding inside
        by_bottom l =
            simp (
              on_test w h x o,
              le-leb at.left (x % w + 8) a,
              lt-ltb (x % w + 8) (at.left + at.wide) b,
              le-leb at.top (x / w + 8) l,
            )

-- a number with a hex's place is that hex
pub place_back : (w h : ℕ) (at : Region) (x z : ℕ) → Inside w h at x → place_in w h at z ≡ place_in w h at x → z ≡ x
place_back w h at x z i e = go (inside w h at z) refl
  where
    go : (t : Bool) → inside w h at z ≡ t → z ≡ x
    go true q =
        let j = inside_facts w h at z q in
        place_one j i (sym (place_some w h at z j) ∙ e ∙ place_some w h at x i)
    go false q = absurd (omega (arith, place_none w h at z q, e, place_some w h at x i, place-in i))

-- numbers that are shifted alike are as far apart
gap_same : (a b a' b' s t : ℕ) → a + s ≡ a' + t → b + s ≡ b' + t → gap_of a b ≡ gap_of a' b'
gap_same a b a' b' s t p q = omega arith

-- places lie to each other as their hexes do, if the first column is an even one
module _ {w h : ℕ} {at : Region} (even : at.left % 2 ≡ 0) where
  -- a place lies as deep, shifted alike for all hexes
  deep : {x : ℕ} → Inside w h at x → depth (place_of w at x % at.wide) (place_of w at x / at.wide) + 2 * at.top ≡ depth (x % w) (x / w) + 16
  deep {x} i =
      let p : (x % w + 8 - at.left) % 2 ≡ x % w % 2 = omega (arith, i.left) in
      omega (arith, p, i.top, place_column i, place_row i)

  over : {x : ℕ} → Inside w h at x → place_of w at x % at.wide + at.left ≡ x % w + 8
  over i = omega (arith, i.left, place_column i)

  as_far : {x z : ℕ} → Inside w h at x → Inside w h at z → distance_of at.wide (place_of w at x) (place_of w at z) ≡ distance_of w x z
  unfolding distance_of far
  as_far {x} {z} i j =
      let a = place_of w at x in
      let b = place_of w at z in
      let n = at.wide in
      ap₂ (λ (u v : ℕ). max u ((u + v) / 2))
      (gap_same (a % n) (b % n) (x % w) (z % w) at.left 8 (over i) (over j))
      (gap_same (depth (a % n) (a / n)) (depth (b % n) (b / n)) (depth (x % w) (x / w)) (depth (z % w) (z / w)) (2 * at.top) 16 (deep i) (deep j))

  as_steps :
      RegionOk at → (x d z : ℕ) → Inside w h at x → Inside w h at z → neighbour_of w h x d ≡ Some z
      → neighbour_of at.wide at.high (place_of w at x) d ≡ Some (place_of w at z)
  as_steps k x d z i j e =
      let a = place_of w at x in
      let b = place_of w at z in
      let n = at.wide in
      let g = (stepped w h x d z e).goes in
      let g' : Goes d (a % n) (a / n) (b % n) (b / n) =
      record { dir = g.dir; over = omega (arith, g.over, over i, over j); deeper = omega (arith, g.deeper, deep i, deep j) }
      in
      let o : On at.wide at.high a =
      record {
        wide = omega (arith, in_column i);
        wide64 = k.wide;
        high = omega (arith, in_row i);
        high64 = k.high;
        below = place-in i;
      }
      in
      steps n at.high a d (b % n) (b / n) o (omega (arith, place_column j, in_column j)) (omega (arith, place_row j, in_row j)) g'
      ∙ ap Some (number n b)

  pub alike : RegionOk at → Alike w h at
  alike k = record { steps = as_steps k; far = λ x z i j. as_far i j }

-- hexes more than a row or a column outside the region, and numbers that are no hex, are away from it
module _ {w h : ℕ} {at : Region} (x : ℕ) where
  apart : ((y : ℕ) → Inside w h at y → Close 1 (x % w) (x / w) (y % w) (y / w) → ⊥) → Away w h at x
  apart f =
      record {
        other = λ i. f x i (record { east = omega arith; west = omega arith; south = omega arith; north = omega arith });
        apart = λ y d i e. f y i (beside_close w h x d y e);
      }

  pub away_above : x / w + 9 < at.top → Away w h at x
  away_above l = apart (λ y i c. omega (arith, i.top, c.south))

  pub away_below : at.top + at.high < x / w + 8 → Away w h at x
  away_below l = apart (λ y i c. omega (arith, i.bottom, c.north))

  pub away_left : x % w + 9 < at.left → Away w h at x
  away_left l = apart (λ y i c. omega (arith, i.left, c.east))

  pub away_right : at.left + at.wide < x % w + 8 → Away w h at x
  away_right l = apart (λ y i c. omega (arith, i.right, c.west))

  pub away_off : w * h ≤ x → Away w h at x
  away_off l =
      record {
        other = λ i. omega (arith, i.on.below);
        apart = λ y d i e. omega (arith, (from_map w h x d y e).below);
      }

-- the rows above and below the region, by the numbers of their hexes
module _ {w h : ℕ} {at : Region} where
  pub before_none : Before w h at 0
  before_none = record { each = λ x l. absurd (omega arith) }

  pub before_top : 1 ≤ w → 9 ≤ at.top → Before w h at ((at.top - 8 - 1) * w)
  before_top p q =
      record { each = λ x l. away_above x (let k : x / w < at.top - 8 - 1 = (div-lt_iff_lt-mul p).1 l in omega arith) }

  pub past_map : Past w h at (w * h)
  past_map = record { most = omega arith; each = λ x l. away_off x l }

  pub past_bottom : 1 ≤ w → RegionOk at → at.top + at.high - 8 < h → Past w h at ((at.top + at.high - 8 + 1) * w)
  past_bottom p k q =
      let n = at.top + at.high - 8 + 1 in
      let s : n * w ≤ h * w = mul-le-mul_right w (omega arith) in
      record {
        most = omega (arith, mul_comm w h);
        each = λ x l. away_below x (let m : n ≤ x / w = (le-div_iff_mul-le p).1 l in omega (arith, k.reaches));
      }

-- a spot's column and row, and its place by them
module _ {w h : ℕ} {s : Spot} (o : SpotOf w h s) (at : Region) where
  pub spot_place : (s.row + 8 - at.top) * at.wide + (s.column + 8 - at.left) ≡ place_of w at s.hex
  unfolding place_of
  spot_place = ap₂ (λ (r c : ℕ). (r + 8 - at.top) * at.wide + (c + 8 - at.left)) o.row o.column

-- the whole map as a region
pub whole_is :
    {w h : ℕ} → On w h 0 → (at : Region) → at.left ≡ 8 → at.top ≡ 8 → at.wide ≡ w → at.high ≡ h → Whole w h at
unfolding place_of
whole_is {w} {h} o at left top wide high =
    record {
      ok =
          record {
            left = omega arith;
            top = omega arith;
            wide = omega (arith, o.wide64);
            high = omega (arith, o.high64);
            reaches = omega arith;
          };
      size = ap₂ (λ (a b : ℕ). a * b) wide high;
      each = λ x q. (
        record {
          on = q;
          left = omega arith;
          right = omega (arith, Map.column q);
          top = omega arith;
          bottom = omega (arith, Map.row q);
        },
        (let r : x / w + 8 - at.top ≡ x / w = omega arith in
            let c : x % w + 8 - at.left ≡ x % w = omega arith in
            ap₂ (λ (m n : ℕ). m * at.wide + n) r c ∙ ap (λ (n : ℕ). x / w * n + x % w) wide ∙ number w x),
      );
    }

-- the region round a spot has what is close to it by columns and rows
pub round_is :
    {w h far : ℕ} {s : Spot} → SpotOf w h s → far ≤ 6 → (at : Region)
    → at.left ≡ s.column + 8 - far - (s.column + 8 - far) % 2
    → at.top ≡ s.row + 8 - far → at.wide ≡ 2 * far + 2 → at.high ≡ 2 * far + 1
    → Round w h s.hex far at
round_is {w} {h} {far} {s} o l at left top wide high =
    let c = spot_column o in
    let r = spot_row o in
    let ok : RegionOk at =
    record {
      left = omega (arith, o.on.wide64);
      top = omega (arith, o.on.high64);
      wide = omega arith;
      high = omega arith;
      reaches = omega arith;
    }
    in
    record {
      ok = ok;
      wide = wide;
      high = high;
      near = λ x q n.
          let k = far_close w s.hex x far n in
          record {
            on = q;
            left = omega (arith, o.column, k.west);
            right = omega (arith, o.column, k.east);
            top = omega (arith, o.row, k.north);
            bottom = omega (arith, o.row, k.south);
          };
      alike = alike (omega (arith, left)) ok;
    }
