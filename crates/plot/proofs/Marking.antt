-- Laws of marks that are bits: one that is set is there, and leaves the others as they were.
-- Assumes nothing.
use Prim.Native.Nat.{ℕ, zero, suc, ◌+◌, ◌/◌, ◌%◌, ◌<◌}
use mathlib.Core.Path.{◌≡◌, refl, sym, ap, ◌∙◌}
use mathlib.Core.Bool.{Bool, false}
use mathlib.Core.List.{List}
use native.Mathlib.Omega.{arith}
use lib.ListN.{length, set, length-set}
use lib.Seq.{get_or-set_same, get_or-set_other}
use Rattle.position.specs.Bits.{has}
use Rattle.position.specs.Layout.{byte}
use Rattle.position.proofs.Tallies.{same_or}
use Rattle.position.proofs.BitLaws.{bit_off, bit_there, bit_same}
use Rattle.plot.specs.Ends.{bit_of, mark_in, MarkSet}

-- no mark is in 0
pub has_none : (j : ℕ) → has (bit_of j) 0 ≡ false
unfolding has
has_none zero = refl
has_none (suc zero) = refl
has_none (suc (suc zero)) = refl
has_none (suc (suc (suc zero))) = refl
has_none (suc (suc (suc (suc zero)))) = refl
has_none (suc (suc (suc (suc (suc zero))))) = refl
has_none (suc (suc (suc (suc (suc (suc zero)))))) = refl
has_none (suc (suc (suc (suc (suc (suc (suc zero))))))) = refl
has_none (suc (suc (suc (suc (suc (suc (suc (suc j)))))))) = refl

-- a number below eight, one by one
below_8 :
    (t : ℕ → Type 0) → t 0 → t 1 → t 2 → t 3 → t 4 → t 5 → t 6 → t 7 → (j : ℕ) → j < 8 → t j
below_8 t a b c d e f g h zero l = a
below_8 t a b c d e f g h (suc zero) l = b
below_8 t a b c d e f g h (suc (suc zero)) l = c
below_8 t a b c d e f g h (suc (suc (suc zero))) l = d
below_8 t a b c d e f g h (suc (suc (suc (suc zero)))) l = e
below_8 t a b c d e f g h (suc (suc (suc (suc (suc zero))))) l = f
below_8 t a b c d e f g h (suc (suc (suc (suc (suc (suc zero)))))) l = g
below_8 t a b c d e f g h (suc (suc (suc (suc (suc (suc (suc zero))))))) l = h
below_8 t a b c d e f g h (suc (suc (suc (suc (suc (suc (suc (suc j)))))))) l = absurd (omega arith)

-- on a byte m without a mark
module _ (m : ℕ) where
  abbrev Fresh : ℕ → Type 0
  Fresh i = m / bit_of i % 2 ≡ 0 → (m + bit_of i) / bit_of i % 2 ≡ 1

  abbrev Stays : ℕ → ℕ → Type 0
  Stays i j = (j ≡ i → ⊥) → m / bit_of i % 2 ≡ 0 → (m + bit_of i) / bit_of j % 2 ≡ m / bit_of j % 2

  abbrev Room : ℕ → Type 0
  Room i = m / bit_of i % 2 ≡ 0 → m < 256 → m + bit_of i < 256

  gets : (i : ℕ) → i < 8 → Fresh i
  gets = below_8 Fresh (λ e. omega arith) (λ e. omega arith) (λ e. omega arith) (λ e. omega arith) (λ e. omega arith) (λ e. omega arith) (λ e. omega arith) (λ e. omega arith)

  fits : (i : ℕ) → i < 8 → Room i
  fits = below_8 Room (λ e l. omega arith) (λ e l. omega arith) (λ e l. omega arith) (λ e l. omega arith) (λ e l. omega arith) (λ e l. omega arith) (λ e l. omega arith) (λ e l. omega arith)

  -- the higher digits stay, as there is no carry, and so do the lower ones
  higher : (n k : ℕ) → n / k ≡ m / k → n / k % 2 ≡ m / k % 2
  higher n k e = ap (λ (x : ℕ). x % 2) e

  stays_0 : (j : ℕ) → j < 8 → Stays 0 j
  stays_0 = below_8 (Stays 0) (λ d e. absurd (d refl)) (λ d e. higher (m + 1) 2 (omega arith)) (λ d e. higher (m + 1) 4 (omega arith)) (λ d e. higher (m + 1) 8 (omega arith)) (λ d e. higher (m + 1) 16 (omega arith)) (λ d e. higher (m + 1) 32 (omega arith)) (λ d e. higher (m + 1) 64 (omega arith)) (λ d e. higher (m + 1) 128 (omega arith))

  stays_1 : (j : ℕ) → j < 8 → Stays 1 j
  stays_1 = below_8 (Stays 1) (λ d e. omega arith) (λ d e. absurd (d refl)) (λ d e. higher (m + 2) 4 (omega arith)) (λ d e. higher (m + 2) 8 (omega arith)) (λ d e. higher (m + 2) 16 (omega arith)) (λ d e. higher (m + 2) 32 (omega arith)) (λ d e. higher (m + 2) 64 (omega arith)) (λ d e. higher (m + 2) 128 (omega arith))

  stays_2 : (j : ℕ) → j < 8 → Stays 2 j
  stays_2 = below_8 (Stays 2) (λ d e. omega arith) (λ d e. omega arith) (λ d e. absurd (d refl)) (λ d e. higher (m + 4) 8 (omega arith)) (λ d e. higher (m + 4) 16 (omega arith)) (λ d e. higher (m + 4) 32 (omega arith)) (λ d e. higher (m + 4) 64 (omega arith)) (λ d e. higher (m + 4) 128 (omega arith))

  stays_3 : (j : ℕ) → j < 8 → Stays 3 j
  stays_3 = below_8 (Stays 3) (λ d e. omega arith) (λ d e. omega arith) (λ d e. omega arith) (λ d e. absurd (d refl)) (λ d e. higher (m + 8) 16 (omega arith)) (λ d e. higher (m + 8) 32 (omega arith)) (λ d e. higher (m + 8) 64 (omega arith)) (λ d e. higher (m + 8) 128 (omega arith))

  stays_4 : (j : ℕ) → j < 8 → Stays 4 j
  stays_4 = below_8 (Stays 4) (λ d e. omega arith) (λ d e. omega arith) (λ d e. omega arith) (λ d e. omega arith) (λ d e. absurd (d refl)) (λ d e. higher (m + 16) 32 (omega arith)) (λ d e. higher (m + 16) 64 (omega arith)) (λ d e. higher (m + 16) 128 (omega arith))

  stays_5 : (j : ℕ) → j < 8 → Stays 5 j
  stays_5 = below_8 (Stays 5) (λ d e. omega arith) (λ d e. omega arith) (λ d e. omega arith) (λ d e. omega arith) (λ d e. omega arith) (λ d e. absurd (d refl)) (λ d e. higher (m + 32) 64 (omega arith)) (λ d e. higher (m + 32) 128 (omega arith))

  stays_6 : (j : ℕ) → j < 8 → Stays 6 j
  stays_6 = below_8 (Stays 6) (λ d e. omega arith) (λ d e. omega arith) (λ d e. omega arith) (λ d e. omega arith) (λ d e. omega arith) (λ d e. omega arith) (λ d e. absurd (d refl)) (λ d e. higher (m + 64) 128 (omega arith))

  stays_7 : (j : ℕ) → j < 8 → Stays 7 j
  stays_7 = below_8 (Stays 7) (λ d e. omega arith) (λ d e. omega arith) (λ d e. omega arith) (λ d e. omega arith) (λ d e. omega arith) (λ d e. omega arith) (λ d e. omega arith) (λ d e. absurd (d refl))

  keeps : (i : ℕ) → i < 8 → (j : ℕ) → j < 8 → Stays i j
  keeps = below_8 (λ i. (j : ℕ) → j < 8 → Stays i j) stays_0 stays_1 stays_2 stays_3 stays_4 stays_5 stays_6 stays_7

-- mark k of a buffer
pub mark_read : (k : ℕ) (l : List ℕ) (b m : ℕ) (r : Bool) → r ≡ has b m → b ≡ bit_of (k % 8) → m ≡ byte l (k / 8) → r ≡ mark_in l k
unfolding mark_in
mark_read k l b m r e p q = e ∙ ap (λ (x : ℕ). has x m) p ∙ ap (has (bit_of (k % 8))) q

module _ (k : ℕ) (l : List ℕ) where
  module _ (m b : ℕ) (is : m ≡ byte l (k / 8)) (bit : b ≡ bit_of (k % 8)) (e : mark_in l k ≡ false) where
    free : m / bit_of (k % 8) % 2 ≡ 0
    unfolding mark_in
    free = bit_off (bit_of (k % 8)) m (ap (has (bit_of (k % 8))) is ∙ e)

    pub mark_fits : m < 256 → m + b < 256
    mark_fits p = rw bit (fits m (k % 8) (omega arith) free p)

    pub mark_set : k / 8 < length l → MarkSet k l (set l (k / 8) (m + b))
    unfolding mark_in
    mark_set p = rw bit
        (record {
          long = length-set l (k / 8) (m + bit_of (k % 8));
          there =
              ap (has (bit_of (k % 8))) (get_or-set_same l (k / 8) (m + bit_of (k % 8)) 0 p)
              ∙ bit_there (bit_of (k % 8)) (m + bit_of (k % 8)) (gets m (k % 8) (omega arith) free);
          others =
              λ j n.
              same_or (j / 8) (k / 8)
              (λ q.
              ap (λ (i : ℕ). has (bit_of (j % 8)) (byte (set l (k / 8) (m + bit_of (k % 8))) i)) q
              ∙ ap (has (bit_of (j % 8))) (get_or-set_same l (k / 8) (m + bit_of (k % 8)) 0 p)
              ∙ bit_same (bit_of (j % 8)) (m + bit_of (k % 8)) m (keeps m (k % 8) (omega arith) (j % 8) (omega arith) (λ z. n (omega arith)) free)
              ∙ ap (has (bit_of (j % 8))) is
              ∙ ap (λ (i : ℕ). has (bit_of (j % 8)) (byte l i)) (sym q))
              (λ d. ap (has (bit_of (j % 8))) (get_or-set_other l (k / 8) (j / 8) (m + bit_of (k % 8)) 0 d));
        })
