-- Laws of a drawn plot: what its bytes are made of, and that they give back what they were made of.
-- Assumes nothing.
use Rattle.std.specs.Prelude.{Option, Some, None}
use Prim.Native.Nat.{ℕ, zero, suc, ◌+◌, ◌*◌, ◌/◌, ◌%◌, ◌≤◌, ◌<◌}
use mathlib.Core.Path.{◌≡◌, refl, sym, ap, ap₂, subst, ◌∙◌}
use mathlib.Core.Bool.{Bool, true, false, cond, ◌||◌, and-true, and-false, or-false}
use mathlib.Core.List.{List}
use native.Mathlib.Omega.{arith}
use native.Mathlib.Nat.{one-mul, zero-mul}
use native.Mathlib.Numerals.{add-one}
use lib.Dec.{eqb}
use borrow.Author.Tests.{ne_eqb}
use lib.ListN.{length, set, length-set}
use Rattle.grid.specs.declared.region.Region.{Region}
use Rattle.grid.specs.Region.{Inside, place_of, HexOf, Round}
use Rattle.grid.proofs.Regions.{place-in}
use Rattle.position.specs.Tally.{any}
use Rattle.position.specs.Bits.{has}
use Rattle.position.specs.Layout.{byte}
use Rattle.position.specs.Board.{Board, Map}
use Rattle.position.specs.Ground.{next}
use Rattle.position.proofs.Tallies.{same_or, either, any_zero, any_step}
use Rattle.field.specs.Scene.{scene}
use Rattle.field.specs.Zone.{stands_on}
use Rattle.paint.specs.Room.{Room}
use Rattle.paint.specs.Paint.{Mark, in_zone, by_any, spare, bit, Shows, Adds, only}
use Rattle.paint.proofs.Bytes.{byte_set, byte_other}
use Rattle.paint.proofs.Adding.{also}
use Rattle.paint.proofs.Units.{marked_zone, marked_held, marked_spare}
use Rattle.chains.specs.declared.Stand.{Stand}
use Rattle.chains.specs.declared.Stand.TheVariants.{Shut, Free, Loose}
use Rattle.chains.specs.Stand.{firm, stand}
use Rattle.chains.specs.Chain.{leads_to}
use Rattle.plot.specs.Plot.{stand_of, side_bit}
use Rattle.pushes.specs.Drawn.{
  stand_number,
  opens,
  open_bits,
  byte_of,
  firm_on,
  bars_by,
  bars_below,
  ShownAt,
  Shown,
  DrawnTo,
  ShownIn,
  ByteIn,
  Drawn,
}

-- a step that leads to a hex, and one that leads to none
module _ (m : Map) (x d : ℕ) {r : Option ℕ} (q : r ≡ next m x d) where
  pub opens_at : {z : ℕ} → r ≡ Some z → opens m x d ≡ true
  unfolding opens leads_to
  opens_at e = rw (sym q ∙ e) refl

  pub opens_off : r ≡ None → opens m x d ≡ false
  unfolding opens leads_to
  opens_off e = rw (sym q ∙ e) refl

-- an answer as a number
abbrev num : Bool → ℕ
num true = 1
num false = 0

num_most : (t : Bool) → num t ≤ 1
num_most true = omega arith
num_most false = omega arith

num_is : (t : Bool) → eqb (num t) 1 ≡ t
num_is true = refl
num_is false = refl

num_of : (t : Bool) (k : ℕ) → cond t k 0 ≡ num t * k
num_of true k = sym (one-mul k)
num_of false k = sym (zero-mul k)

-- the bits of one direction more
module _ (m : Map) (x : ℕ) where
  pub bits_none : open_bits m x 0 ≡ 0
  unfolding open_bits
  bits_none = refl

  module _ (d : ℕ) where
    more : open_bits m x (d + 1) ≡ cond (opens m x d) (side_bit d) 0 + open_bits m x d
    unfolding open_bits
    more = ap (open_bits m x) (add-one d)

    -- as a product
    added : (k : ℕ) → side_bit d ≡ k → open_bits m x (d + 1) ≡ num (opens m x d) * k + open_bits m x d
    added k e =
        more ∙ ap (λ (n : ℕ). n + open_bits m x d) (num_of (opens m x d) (side_bit d) ∙ ap (λ (n : ℕ). num (opens m x d) * n) e)

    pub bits_open : opens m x d ≡ true → open_bits m x (d + 1) ≡ open_bits m x d + side_bit d
    bits_open e = let c : cond (opens m x d) (side_bit d) 0 ≡ side_bit d = rw e refl in omega (arith, more, c)

    pub bits_shut : opens m x d ≡ false → open_bits m x (d + 1) ≡ open_bits m x d
    bits_shut e = let c : cond (opens m x d) (side_bit d) 0 ≡ 0 = rw e refl in omega (arith, more, c)

    grown : open_bits m x (d + 1) ≤ open_bits m x d + side_bit d
    grown = either (opens m x d) (λ e. omega (arith, bits_open e)) (λ e. omega (arith, bits_shut e))

  -- they are less than the next bit
  pub bits_low : (d : ℕ) → d ≤ 6 → open_bits m x d + 4 ≤ side_bit d
  bits_low zero l = omega (arith, bits_none)
  bits_low (suc zero) l = omega (arith, grown 0, bits_low zero (omega arith))
  bits_low (suc (suc zero)) l = omega (arith, grown 1, bits_low (suc zero) (omega arith))
  bits_low (suc (suc (suc zero))) l = omega (arith, grown 2, bits_low (suc (suc zero)) (omega arith))
  bits_low (suc (suc (suc (suc zero)))) l = omega (arith, grown 3, bits_low (suc (suc (suc zero))) (omega arith))
  bits_low (suc (suc (suc (suc (suc zero))))) l = omega (arith, grown 4, bits_low (suc (suc (suc (suc zero)))) (omega arith))
  bits_low (suc (suc (suc (suc (suc (suc zero)))))) l = omega (arith, grown 5, bits_low (suc (suc (suc (suc (suc zero))))) (omega arith))
  bits_low (suc (suc (suc (suc (suc (suc (suc d))))))) l = absurd (omega arith)

-- what a sum of six bits over a number up to 3 is made of
record Parts (n k a b c d e f : ℕ) : Type 0 where
  pub low : n % 4 ≡ k
  pub first : n / 4 % 2 ≡ a
  pub second : n / 8 % 2 ≡ b
  pub third : n / 16 % 2 ≡ c
  pub fourth : n / 32 % 2 ≡ d
  pub fifth : n / 64 % 2 ≡ e
  pub sixth : n / 128 % 2 ≡ f

parts : (n k a b c d e f : ℕ) → k ≤ 3 → a ≤ 1 → b ≤ 1 → c ≤ 1 → d ≤ 1 → e ≤ 1 → f ≤ 1
    → n ≡ f * 128 + (e * 64 + (d * 32 + (c * 16 + (b * 8 + (a * 4 + 0))))) + k
    → Parts n k a b c d e f
parts n k a b c d e f lk la lb lc ld le lf q =
    record {
      low = omega arith;
      first = omega arith;
      second = omega arith;
      third = omega arith;
      fourth = omega arith;
      fifth = omega arith;
      sixth = omega arith;
    }

-- a byte has the bits of the open directions, above what it says of its place
module _ (m : Map) (x k : ℕ) (l : k ≤ 3) where
  made :
      open_bits m x 6 ≡
      num (opens m x 5) * 128
      + (num (opens m x 4) * 64
      + (num (opens m x 3) * 32 + (num (opens m x 2) * 16 + (num (opens m x 1) * 8 + (num (opens m x 0) * 4 + 0)))))
  made =
      omega (
        arith,
        bits_none m x,
        added m x 0 4 refl,
        added m x 1 8 refl,
        added m x 2 16 refl,
        added m x 3 32 refl,
        added m x 4 64 refl,
        added m x 5 128 refl,
      )

  split :
      Parts (open_bits m x 6 + k) k (num (opens m x 0)) (num (opens m x 1)) (num (opens m x 2)) (num (opens m x 3)) (num (opens m x 4))
      (num (opens m x 5))
  split =
      parts (open_bits m x 6 + k) k (num (opens m x 0)) (num (opens m x 1)) (num (opens m x 2)) (num (opens m x 3)) (num (opens m x 4))
      (num (opens m x 5)) l (num_most (opens m x 0)) (num_most (opens m x 1)) (num_most (opens m x 2)) (num_most (opens m x 3))
      (num_most (opens m x 4)) (num_most (opens m x 5)) (ap (λ (n : ℕ). n + k) made)

  asked : (n d : ℕ) → (open_bits m x 6 + k) / n % 2 ≡ num (opens m x d) → has n (open_bits m x 6 + k) ≡ opens m x d
  unfolding has
  asked n d e = ap (λ (b : ℕ). eqb b 1) e ∙ num_is (opens m x d)

  has_open : (d : ℕ) → d < 6 → has (side_bit d) (open_bits m x 6 + k) ≡ opens m x d
  has_open zero q = asked 4 0 split.first
  has_open (suc zero) q = asked 8 1 split.second
  has_open (suc (suc zero)) q = asked 16 2 split.third
  has_open (suc (suc (suc zero))) q = asked 32 3 split.fourth
  has_open (suc (suc (suc (suc zero)))) q = asked 64 4 split.fifth
  has_open (suc (suc (suc (suc (suc zero))))) q = asked 128 5 split.sixth
  has_open (suc (suc (suc (suc (suc (suc d)))))) q = absurd (omega arith)

  rest_is : (open_bits m x 6 + k) % 4 ≡ k
  rest_is = split.low

-- and what it says of its place is the stand whose number was added
by_number : (n : ℕ) (s : Stand) → n % 4 ≡ stand_number s → stand_of n ≡ s
unfolding stand_of
by_number n Shut e = rw e refl
by_number n Free e = rw e refl
by_number n Loose e = rw e refl

number_most : (s : Stand) → stand_number s ≤ 3
number_most Shut = omega arith
number_most Free = omega arith
number_most Loose = omega arith

pub stand_back : (m : Map) (x : ℕ) (s : Stand) → stand_of (open_bits m x 6 + stand_number s) ≡ s
stand_back m x s = by_number (open_bits m x 6 + stand_number s) s (rest_is m x (stand_number s) (number_most s))

pub has_back : (m : Map) (x : ℕ) (s : Stand) (d : ℕ) → d < 6 → has (side_bit d) (open_bits m x 6 + stand_number s) ≡ opens m x d
has_back m x s d l = has_open m x (stand_number s) (number_most s) d l

-- what unit u adds to the marks: nothing, or the spare one on its hex
module _ (b : Board) (f u : ℕ) where
  pub bars_none : firm b f u ≡ false → (k : Mark) (h : ℕ) → bars_by b f u k h ≡ false
  unfolding bars_by firm_on
  bars_none e k h = simp (e, and-false)

  pub bars_off : (k : Mark) (h : ℕ) → (b.units.state.hex u ≡ h → ⊥) → bars_by b f u k h ≡ false
  unfolding bars_by firm_on stands_on
  bars_off k h n = simp (ne_eqb (b.units.state.hex u) h n, and-false)

  pub bars_here : {n : ℕ} → n ≡ b.units.state.hex u → firm b f u ≡ true → (k : Mark) (h : ℕ) → only 32 n k h ≡ bars_by b f u k h
  unfolding only bars_by firm_on stands_on
  bars_here {n} e q k h = rw e (simp (q, and-true))

-- one unit after the other
module _ (b : Board) (f : ℕ) where
  pub below_none : (k : Mark) (h : ℕ) → bars_below b f 0 k h ≡ false
  unfolding bars_below
  below_none k h = simp (any_zero (firm_on b f h), and-false)

  pub below_step : (u : ℕ) (k : Mark) (h : ℕ) → also (bars_below b f u) (bars_by b f u) k h ≡ bars_below b f (u + 1) k h
  unfolding also bars_below bars_by
  below_step u k h =
      either (eqb (bit k) 32) (λ e. simp e (sym (any_step (firm_on b f h) u))) (λ e. simp e)

-- all of them, over what was painted, show the region
pub shown :
    {b : Board} {f c : ℕ} {at : Region} {l m : List ℕ} → c ≡ b.units.count → Shows (scene b) f at l
    → Adds b.map.width b.map.height at (bars_below b f c) l m → Shown b f at m
unfolding bars_below
shown {b} {f} {c} e s a =
    record {
      each = λ h i.
          let k = s.each h i in
          record {
            zone = a.each in_zone h i ∙ marked_zone k;
            held = a.each by_any h i ∙ marked_held k;
            barred =
                a.each spare h i
                ∙ ap (λ (x : Bool). any (firm_on b f h) c || x) (marked_spare k)
                ∙ or-false (any (firm_on b f h) c)
                ∙ ap (any (firm_on b f h)) e;
          };
    }

-- the hex of a place, or that it has none
module _ {w h i : ℕ} {at : Region} {r : Option ℕ} (k : HexOf w h at i r) where
  pub hex_here : {x : ℕ} → r ≡ Some x → Inside w h at x × (place_of w at x ≡ i)
  hex_here e = subst (HexOf w h at i) e k

  pub hex_nowhere : r ≡ None → (x : ℕ) → Inside w h at x → place_of w at x ≡ i → ⊥
  hex_nowhere e = subst (HexOf w h at i) e k

-- 182 bytes have room for a plot
pub round_room : {w h start : ℕ} {at : Region} {l : List ℕ} → Round w h start 6 at → length l ≡ 182 → Room at l
round_room r e = record { region = r.ok; long = omega (arith, e, ap₂ (λ (m n : ℕ). m * n) r.wide r.high) }

-- the byte of a hex
pub byte-of : (b : Board) (f start x : ℕ) → byte_of b f start x ≡ open_bits b.map x 6 + stand_number (stand b f start x)
unfolding byte_of
byte-of b f start x = refl

-- along a pass over the places
module _ {b : Board} {f start : ℕ} {at : Region} where
  module _ {i : ℕ} {l : List ℕ} (d : DrawnTo b f start at i l) where
    pub drawn : 182 ≤ i → Round b.map.width b.map.height start 6 at → Drawn b f start at l
    drawn q r =
        record {
          long = d.long;
          each = λ x j. d.done x j (omega (arith, place-in j, ap₂ (λ (m n : ℕ). m * n) r.wide r.high));
        }
