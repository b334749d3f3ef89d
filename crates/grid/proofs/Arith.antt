-- Columns, rows and hex numbers: products and quotients by the width, which omega takes as unknowns.
-- Assumes nothing.
use mathlib.Core.Path.{◌≡◌, ◌∙◌, ap, subst}
use Prim.Native.Nat.{ℕ, suc, ◌+◌, ◌*◌, ◌/◌, ◌%◌, ◌≤◌, ◌<◌}
use native.Mathlib.Nat.{mul-le-mul, mul-le-mul_right, mul-add-div_right, mul-add-mod_self_right, div-eq_of_lt, mod-eq_of_lt, div-add-mod', div-lt_iff_lt-mul, mod-lt, suc-mul, mul_comm, add-zero}
use native.Mathlib.Decide.{dec_lt}
use native.Mathlib.Omega.{arith}
use Rattle.grid.specs.Map.{On}

-- a product of two numbers to 64
pub small : {a b : ℕ} → a ≤ 64 → b ≤ 64 → a * b ≤ 4096
small p q = mul-le-mul p q

-- a hex of the map has a column and a row
pub column : {w h a : ℕ} → On w h a → a % w < w
column {w} {h} {a} o = mod-lt a o.wide

pub row : {w h a : ℕ} → On w h a → a / w < h
row {w} {h} {a} o = (div-lt_iff_lt-mul o.wide).1 (subst (λ (n : ℕ). a < n) (mul_comm w h) o.below)

-- and they make its number
pub number : (w a : ℕ) → a / w * w + a % w ≡ a
number w a = div-add-mod' a w

-- the column and the row of the number that row r and column c make
pub column_of_lem : {w c : ℕ} (r : ℕ) → c < w → (r * w + c) % w ≡ c
column_of_lem {w} {c} r p = mul-add-mod_self_right r w c ∙ mod-eq_of_lt p

pub row_of : {w c : ℕ} (r : ℕ) → c < w → (r * w + c) / w ≡ r
row_of {w} {c} r p = mul-add-div_right {m = w} (omega arith) r c ∙ ap (λ (n : ℕ). r + n) (div-eq_of_lt p) ∙ add-zero r

-- and that number is on the map
pub inside : {w h a c r : ℕ} → On w h a → c < w → r < h → On w h (r * w + c)
inside {w} {h} {a} {c} {r} o p q =
    let s : suc r * w ≤ h * w = mul-le-mul_right w q in
    record {
      wide = o.wide;
      wide64 = o.wide64;
      high = o.high;
      high64 = o.high64;
      below = omega (arith, suc-mul r w, mul_comm w h);
    }

-- two numbers in order: a sum to match on, where the library's le-total is truncated
pub data Order (a b : ℕ) : Type 0 where
  less : a < b → Order a b
  same : a ≡ b → Order a b
  more : b < a → Order a b

pub order : (a b : ℕ) → Order a b
order a b = go (dec_lt a b) (dec_lt b a)
  where
    go : Dec (a < b) → Dec (b < a) → Order a b
    go (yes p) q = less p
    go (no p) (yes q) = more q
    go (no p) (no q) = same (omega arith)
