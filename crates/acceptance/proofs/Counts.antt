-- Counting by comparison: no more numbers pass a test than their images, and the first numbers pass where each asks for the one before.
-- Assumes nothing.
use Prim.Native.Nat.{ℕ, zero, suc, ◌+◌, ◌≤◌, ◌<◌}
use mathlib.Core.Path.{◌≡◌, sym, ap, ◌∙◌}
use mathlib.Core.Bool.{Bool, true, false, ◌&&◌}
use native.Mathlib.Omega.{arith}
use native.Mathlib.Numerals.{add-one}
use native.Mathlib.Decide.{dec_lt}
use lib.Dec.{eqb}
use borrow.Author.Tests.{eq-eqb, eqb-true}
use Rattle.position.specs.Tally.{tally, any}
use Rattle.position.proofs.Tallies.{
  not_both,
  both_yes,
  same_or,
  either,
  tally_hit,
  tally_zero,
  tally_grows,
  tally_some,
  any_some,
  any_false,
  tally_le,
  but,
  but_other,
  but_self,
  tally_but_hit,
  tally_but_miss,
}

-- where none passes, none is counted
pub tally_nought : (t : ℕ → Bool) (n : ℕ) → ((k : ℕ) → k < n → t k ≡ false) → tally t n ≡ 0
tally_nought t n f =
    same_or (tally t n) 0 (λ e. e)
    (λ d. let s = tally_some t n (omega arith) in not_both (t s.at) s.passes (f s.at s.below))

-- without one number a test counts at most one less
pub tally_one_off : (t : ℕ → Bool) (u n : ℕ) → tally t n ≤ tally (but t u) n + 1
tally_one_off t u n = at (dec_lt u n)
  where
    at : Dec (u < n) → tally t n ≤ tally (but t u) n + 1
    at (yes l) =
        either (t u) (λ e. omega (arith, tally_but_hit t u n l e)) (λ e. omega (arith, tally_but_miss t u n e))
    at (no d) =
        let h = tally_le t (but t u) n (λ k l e. but_other t u k (λ q. absurd (omega arith)) ∙ e) in
        omega arith

-- what passes without u passes, and is not u
but_parts : (t : ℕ → Bool) (u w : ℕ) → but t u w ≡ true → (t w ≡ true) × (w ≡ u → ⊥)
but_parts t u w e =
    same_or w u (λ q. not_both (but t u w) e (but_self t u w q)) (λ d. (sym (but_other t u w d) ∙ e, d))

-- the numbers that g takes to one number
unfoldable hits : (ℕ → Bool) → (ℕ → ℕ) → ℕ → ℕ → Bool
hits t g k u = t u && eqb (g u) k

-- no more numbers pass than g has images below k, where it takes no two of them to one
pub tally_injects :
    (g : ℕ → ℕ) (n k : ℕ) (t : ℕ → Bool) → ((u : ℕ) → u < n → t u ≡ true → g u < k)
    → ((u w : ℕ) → u < n → w < n → t u ≡ true → t w ≡ true → g u ≡ g w → u ≡ w) → tally t n ≤ k
unfolding hits
tally_injects g n zero t small one =
    let e = tally_nought t n (λ u l. either (t u) (λ p. absurd (omega (arith, small u l p))) (λ p. p)) in omega arith
tally_injects g n (suc k) t small one =
    either (any (hits t g k) n)
    (λ e.
    let s = any_some (hits t g k) n e in
    let u = s.at in
    let l = s.below in
    let p = both_yes (t u) (eqb (g u) k) s.passes in
    let q = eqb-true (g u) k p.1 in
    let i =
    tally_injects g n k (but t u)
    (λ w m r.
    let x = but_parts t u w r in
    let y = small w m x.0 in
    let z : g w ≡ k → ⊥ = λ d. x.1 (one w u m l x.0 p.0 (d ∙ sym q)) in
    omega arith)
    (λ v w m o r s. one v w m o (but_parts t u v r).0 (but_parts t u w s).0)
    in
    omega (arith, tally_one_off t u n))
    (λ e.
    let i =
    tally_injects g n k t
    (λ w m r.
    let y = small w m r in
    let z : g w ≡ k → ⊥ = λ d. not_both (hits t g k w) (simp (r, eq-eqb (g w) k d)) (any_false (hits t g k) n w e m) in
    omega arith)
    one
    in
    omega arith)

-- where all pass, all are counted
pub tally_full : (t : ℕ → Bool) (n : ℕ) → ((k : ℕ) → k < n → t k ≡ true) → tally t n ≡ n
tally_full t zero f = tally_zero t
tally_full t (suc n) f =
    let i = tally_full t n (λ k l. f k (omega arith)) in
    ap (tally t) (sym (add-one n)) ∙ tally_hit t n (f n (omega arith)) ∙ omega arith

-- where a number passes only if the one before it does, the first numbers pass, as many as are counted
module _ (t : ℕ → Bool) (n : ℕ) (down : (i : ℕ) → i + 1 < n → t (i + 1) ≡ true → t i ≡ true) where
  all_before : (k : ℕ) → k < n → t k ≡ true → (i : ℕ) → i ≤ k → t i ≡ true
  all_before zero l e i m = ap t (omega arith) ∙ e
  all_before (suc k) l e i m =
      same_or i (suc k) (λ z. ap t z ∙ e)
      (λ d. all_before k (omega arith) (down k (omega arith) (ap t (add-one k) ∙ e)) i (omega arith))

  pub front_passes : (i : ℕ) → i < n → i < tally t n → t i ≡ true
  front_passes i l m =
      either (t i) (λ e. e)
      (λ e. absurd (omega (arith, tally_injects (λ u. u) n i t (λ u k p. below e u k p (dec_lt u i)) (λ u w _ _ _ _ q. q))))
    where
      below : t i ≡ false → (u : ℕ) → u < n → t u ≡ true → Dec (u < i) → u < i
      below e u k p (yes h) = h
      below e u k p (no h) = not_both (t i) (all_before u k p i (omega arith)) e

  pub front_counted : (i : ℕ) → i < n → t i ≡ true → i < tally t n
  front_counted i l e =
      let f = tally_full t (i + 1) (λ k m. all_before i l e k (omega arith)) in
      omega (arith, tally_grows t (i + 1) n (omega arith))
