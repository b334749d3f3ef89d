-- Laws of the rim: hex 0 is on it, and what comes next after a hex of it.
-- Assumes nothing.
use Rattle.std.specs.Prelude.{None}
use mathlib.Core.Path.{◌≡◌, sym, ◌∙◌, ap}
use Prim.Native.Nat.{ℕ, zero, suc, ◌+◌, ◌-◌, ◌*◌, ◌/◌, ◌%◌, ◌≤◌, ◌<◌}
use native.Mathlib.Nat.{add-mul, mod-eq_of_lt}
use native.Mathlib.Decide.{dec_lt}
use native.Mathlib.Omega.{arith}
use Rattle.grid.specs.Map.{On, neighbour_of}
use Rattle.grid.specs.Rim.{RimHex, RimNext}
use Rattle.grid.proofs.Arith.{small, row, number, column_of_lem, row_of}
use Rattle.grid.proofs.Step.{aside, down, Goes, steps}

module _ (w h a : ℕ) (o : On w h a) where
  -- a direction that leads to a column and a row of the map leads to a hex
  not_off : (d c r : ℕ) → c < w → r < h → Goes d (a % w) (a / w) c r → neighbour_of w h a d ≡ None → ⊥
  not_off d c r p q g e =
      let s = steps w h a d c r o p q g in
      let z : ◌≡◌ {A = ℕ} 0 1 = cc in
      omega arith

  -- so do the directions 0, 1 and 2, but from the top row, the bottom row and the right column
  inner : (d : ℕ) → d < 3 → 0 < a / w → a / w + 1 < h → a % w + 1 < w → neighbour_of w h a d ≡ None → ⊥
  unfolding aside down
  inner zero l t b s = not_off 0 (a % w) (a / w - 1) (omega arith) (omega arith) (omega arith)
  inner (suc zero) l t b s = not_off 1 (a % w + 1) (a / w - 1 + a % w % 2) (omega arith) (omega arith) (omega arith)
  inner (suc (suc zero)) l t b s = not_off 2 (a % w + 1) (a / w + a % w % 2) (omega arith) (omega arith) (omega arith)
  inner (suc (suc (suc d))) l t b s = absurd (omega arith)

pub rim_first : {w h : ℕ} → On w h 0 → RimHex w h 0
rim_first o = record { on = o; last = λ l k. absurd (omega (arith, o.wide)) }

-- another hex of the same map
elsewhere : {w h x : ℕ} (y : ℕ) → On w h x → y < w * h → On w h y
elsewhere y o l = record { wide = o.wide; wide64 = o.wide64; high = o.high; high64 = o.high64; below = l }

module _ {w h x : ℕ} (o : RimHex w h x) where
  pub rim_small : (w ≤ 64) × (x < w * h) × (w * h ≤ 4096)
  rim_small = (o.on.wide64, o.on.below, small o.on.wide64 o.on.high64)

  -- the hex beside it comes next where it is a hex of the top row or of the bottom row, or none
  next_beside : (x + 1 < w * h → w ≤ x + 1 → x + 1 + w < w * h → ⊥) → RimNext w h x (x + 1)
  next_beside f =
      record {
        later = omega arith;
        most = omega (arith, o.on.below);
        rim = λ l. record { on = elsewhere (x + 1) o.on l; last = λ j k. absurd (f l j k) };
        between = λ y d j k l. absurd (omega arith);
      }

  pub next_top : x + 1 < w → RimNext w h x (x + 1)
  next_top l = next_beside (λ a b c. omega arith)

  pub next_bottom : w * h ≤ x + 1 + w → RimNext w h x (x + 1)
  next_bottom l = next_beside (λ a b c. omega arith)

  -- else it is the last of its row, and the last of the next row comes next: that row is not the bottom row
  module _ (t : w ≤ x + 1) (b : x + 1 + w < w * h) where
    right : x % w + 1 ≡ w
    right = at (dec_lt x w)
      where
        at : Dec (x < w) → x % w + 1 ≡ w
        at (yes l) = omega (arith, mod-eq_of_lt l)
        at (no l) = o.last (omega arith) (omega arith)

    -- the hexes of the next row and the one after them
    next_row : (c : ℕ) → x + 1 + c ≡ (x / w + 1) * w + c
    next_row c = omega (arith, right, number w x, add-mul (x / w) 1 w)

    row_after : x / w + 2 < h
    row_after =
        let e : x + 1 + w ≡ (x / w + 2) * w + 0 = omega (arith, right, number w x, add-mul (x / w) 2 w) in
        omega (arith, ap (λ (n : ℕ). n / w) e ∙ row_of (x / w + 2) o.on.wide, row (elsewhere (x + 1 + w) o.on b))

    column_next : {c : ℕ} → c < w → (x + 1 + c) % w ≡ c
    column_next {c} l = ap (λ (n : ℕ). n % w) (next_row c) ∙ column_of_lem (x / w + 1) l

    row_next : {c : ℕ} → c < w → (x + 1 + c) / w ≡ x / w + 1
    row_next {c} l = ap (λ (n : ℕ). n / w) (next_row c) ∙ row_of (x / w + 1) l

    inside_row : (y d : ℕ) → x < y → y < x + w → d < 3 → neighbour_of w h y d ≡ None → ⊥
    inside_row y d j k l =
        let e : x + 1 + (y - (x + 1)) ≡ y = omega arith in
        let q : y - (x + 1) < w = omega arith in
        let r = ap (λ (n : ℕ). n / w) (sym e) ∙ row_next q in
        let c = ap (λ (n : ℕ). n % w) (sym e) ∙ column_next q in
        inner w h y (elsewhere y o.on (omega arith)) d l (omega arith) (omega (arith, row_after)) (omega arith)

    pub next_right : RimNext w h x (x + w)
    next_right =
        let e : x + 1 + (w - 1) ≡ x + w = omega (arith, o.on.wide) in
        let c : (x + w) % w ≡ w - 1 = ap (λ (n : ℕ). n % w) (sym e) ∙ column_next (omega (arith, o.on.wide)) in
        record {
          later = omega (arith, o.on.wide);
          most = omega arith;
          rim = λ l. record { on = elsewhere (x + w) o.on l; last = λ j k. omega (arith, o.on.wide) };
          between = inside_row;
        }
