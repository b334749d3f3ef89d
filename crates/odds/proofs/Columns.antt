-- Laws of the odds: the smaller and the larger, what an attacker crosses, the smallest of a list, and the last column reached.
-- Assumes nothing.
use Rattle.std.specs.Prelude.{min, max}
use Prim.Native.Nat.{◌*◌, ◌+◌, ◌<◌, ◌≤◌, suc, zero, ℕ}
use mathlib.Core.Bool.{Bool, false, true}
use mathlib.Core.List.{List, [], ◌++◌, ◌∷◌, map}
use mathlib.Core.Path.{◌∙◌, ◌≡◌, ap, ap₂, refl, sym}
use native.Mathlib.Nat.{mul-le-mul}
use native.Mathlib.Numerals.{add-one}
use native.Mathlib.Omega.{arith}
use borrow.Author.Tests.{eq-eqb, le-leb, leb-false, leb-true, lt-leb, ne_eqb}
use lib.Dec.{leb}
use lib.ListN.{get_or, length, take}
use lib.Seq.{length-take-le, take_all}
use Rattle.position.proofs.BitLaws.{low}
use Rattle.position.proofs.Tallies.{either}
use Rattle.position.specs.Board.{Board, Chart}
use Rattle.position.specs.Ground.{major_river_side, river_side, side}
use Rattle.position.specs.Layout.{major_river, river}
use Rattle.position.specs.Ground.{bearing}
use Rattle.field.proofs.Lists.{map_last, map_long, take_more}
use Rattle.odds.specs.Odds.{crossed, defence_multiple, larger, last, multiple_at, side_multiple, smaller, smallest, smallest_from}

module _ (m n : ℕ) where
  pub smaller_first : m ≤ n → smaller m n ≡ m
  unfolding smaller
  smaller_first l = simp (le-leb m n l)

  pub smaller_second : n < m → smaller m n ≡ n
  unfolding smaller
  smaller_second l = simp (lt-leb m n l)

  pub larger_second : m ≤ n → larger m n ≡ n
  unfolding larger
  larger_second l = simp (le-leb m n l)

  pub larger_first : n < m → larger m n ≡ m
  unfolding larger
  larger_first l = simp (lt-leb m n l)

  -- neither is above a limit that both are below
  pub smaller_below : (k : ℕ) → n < k → smaller m n < k
  smaller_below k l = either (leb m n) (λ e. omega (arith, smaller_first (leb-true m n e), leb-true m n e)) (λ e. omega (arith, smaller_second (leb-false m n e)))

  pub larger_below : (k : ℕ) → m < k → n < k → larger m n < k
  larger_below k h l = either (leb m n) (λ e. omega (arith, larger_second (leb-true m n e))) (λ e. omega (arith, larger_first (leb-false m n e)))

-- what the library's `min` and `max` answer
pub smaller_min : (low x : ℕ) → min low x ≡ smaller x low
smaller_min low x = either (leb x low) (λ e. omega (arith, smaller_first x low (leb-true x low e), leb-true x low e)) (λ e. omega (arith, smaller_second x low (leb-false x low e), leb-false x low e))

pub larger_max : (m n : ℕ) → max m n ≡ larger m n
larger_max m n = either (leb m n) (λ e. omega (arith, larger_second m n (leb-true m n e), leb-true m n e)) (λ e. omega (arith, larger_first m n (leb-false m n e), leb-false m n e))

-- a river, a major river, and any other side
module _ (c : Chart) (s : ℕ) where
  pub multiple_river : s ≡ river_side → side_multiple c s ≡ c.multiple river
  unfolding side_multiple
  multiple_river e = simp (eq-eqb s river_side e)

  pub multiple_major : s ≡ major_river_side → side_multiple c s ≡ c.multiple major_river
  unfolding side_multiple
  multiple_major e = simp (ne_eqb s river_side (λ f. omega arith), eq-eqb s major_river_side e)

  pub multiple_none : (s ≡ river_side → ⊥) → (s ≡ major_river_side → ⊥) → side_multiple c s ≡ 0
  unfolding side_multiple
  multiple_none e f = simp (ne_eqb s river_side e, ne_eqb s major_river_side f)

-- what an attacker crosses, read
pub crossed_read :
    (b : Board) (target u : ℕ) {h d s r : ℕ} → h ≡ b.units.state.hex u → d ≡ bearing b.map h target → s ≡ side b.map h d → r ≡ side_multiple b.chart s
    → r ≡ crossed b target u
unfolding crossed
crossed_read b target u {h} {d} e f g k =
    k
    ∙ ap (side_multiple b.chart)
    (g ∙ ap (side b.map h) f ∙ ap (λ (x : ℕ). side b.map x (bearing b.map x target)) e)

-- the smallest of a list, and of one more
smallest_from_lem : (m : ℕ) (xs : List ℕ) (x : ℕ) → smallest_from m (xs ++ (x ∷ [])) ≡ smaller x (smallest_from m xs)
unfolding smallest_from
smallest_from_lem m [] x = refl
smallest_from_lem m (y ∷ ys) x = smallest_from_lem (smaller y m) ys x

smallest_last : (xs : List ℕ) (x : ℕ) → 1 ≤ length xs → smallest (xs ++ (x ∷ [])) ≡ smaller x (smallest xs)
unfolding smallest
smallest_last [] x l = absurd (omega arith)
smallest_last (y ∷ ys) x l = smallest_from_lem y ys x

-- the smallest that f makes of the first i
pub record Lowest (f : ℕ → ℕ) (us : List ℕ) (i low : ℕ) : Type 0 where
  pub most : i ≤ length us
  pub some : 1 ≤ i
  pub is : low ≡ smallest (map f (take i us))
  pub small : low < 256

pub lowest_first : {f : ℕ → ℕ} {us : List ℕ} {low : ℕ} → 1 ≤ length us → low ≡ f (get_or us 0 0) → low < 256 → Lowest f us 1 low
unfolding smallest smallest_from
lowest_first {f} {us} l e s =
    record {
      most = l;
      some = omega arith;
      is = e ∙ sym (ap (λ (x : List ℕ). smallest (map f x)) (take_more us 0 l));
      small = s;
    }

pub lowest_more :
    {f : ℕ → ℕ} {us : List ℕ} {i low x r : ℕ} → Lowest f us i low → i < length us → x ≡ f (get_or us i 0) → x < 256 → r ≡ smaller x low
    → Lowest f us (i + 1) r
lowest_more {f} {us} {i} {low} {x} {r} o l e s g =
    record {
      most = omega arith;
      some = omega arith;
      is =
          g
          ∙ ap₂ smaller e o.is
          ∙ sym
          (ap (λ (l : List ℕ). smallest (map f l)) (take_more us i l)
          ∙ ap smallest (map_last f (take i us) (get_or us i 0))
          ∙ smallest_last (map f (take i us)) (f (get_or us i 0)) (omega (arith, map_long f (take i us), length-take-le i us o.most, o.some)));
      small = rw g (smaller_below x low 256 o.small);
    }

pub lowest_all : {f : ℕ → ℕ} {us : List ℕ} {i low : ℕ} → Lowest f us i low → length us ≤ i → low ≡ smallest (map f us)
lowest_all {f} {us} {i} o l = o.is ∙ ap (λ (x : List ℕ). smallest (map f x)) (take_all i us l)

-- the last number below n that passes, of those below i
pub record Highest (t : ℕ → Bool) (i n k : ℕ) : Type 0 where
  pub most : i ≤ n
  pub is : k ≡ last t i
  pub small : k < i + 1

module _ {t : ℕ → Bool} {n : ℕ} where
  pub highest_none : Highest t 0 n 0
  unfolding last
  highest_none = record { most = omega arith; is = refl; small = omega arith }

  pub highest_hit : {i k m : ℕ} → Highest t i n k → i < n → t i ≡ true → m ≡ i → Highest t (i + 1) n m
  unfolding last
  highest_hit {i} o l e f = record { most = omega arith; is = f ∙ rw (add-one i) (simp e); small = omega arith }

  pub highest_miss : {i k m : ℕ} → Highest t i n k → i < n → t i ≡ false → m ≡ k → Highest t (i + 1) n m
  unfolding last
  highest_miss {i} o l e f = record { most = omega arith; is = f ∙ rw (add-one i) (simp e o.is); small = omega (arith, o.small) }

  pub highest_all : {i k m : ℕ} → Highest t i n k → n ≤ i → n ≡ m → k ≡ last t m
  highest_all {i} {k} {m} o l e = let f : i ≡ m = omega (arith, o.most) in o.is ∙ ap (last t) f

-- the last of some numbers is one of them
last_below : (t : ℕ → Bool) (n : ℕ) → last t (suc n) < suc n
unfolding last
last_below t zero = either (t 0) (λ e. simp e (omega arith)) (λ e. simp e (omega arith))
last_below t (suc n) =
    let h = last_below t n in
    either (t (suc n)) (λ e. simp e (omega arith)) (λ e. simp e (omega arith))

pub last_small : (t : ℕ → Bool) (n : ℕ) → 1 ≤ n → last t n < n
last_small t zero l = absurd (omega arith)
last_small t (suc n) l = last_below t n

-- products of odds and strengths fit
pub product_fits : {m n : ℕ} → m < 256 → n < 16777216 → m * n < 18446744073709551616
product_fits {m} {n} l k = let a : m ≤ 255 = omega arith in let b : n ≤ 16777215 = omega arith in let e : m * n ≤ 255 * 16777215 = mul-le-mul a b in omega arith

pub product_fits_too : {m n : ℕ} → m < 16777216 → n < 256 → m * n < 18446744073709551616
product_fits_too {m} {n} l k = let a : m ≤ 16777215 = omega arith in let b : n ≤ 255 = omega arith in let e : m * n ≤ 16777215 * 255 = mul-le-mul a b in omega arith

-- the defence multiple, read
pub multiple_read : (b : Board) (target : ℕ) (units : List ℕ) {t s r : ℕ} → t ≡ b.chart.multiple (b.map.terrain target) → s ≡ smallest (map (crossed b target) units) → r ≡ larger t s → r ≡ multiple_at b target units
unfolding multiple_at defence_multiple
multiple_read b target units e f g = g ∙ ap₂ larger e f
