-- Laws of counting and asking over the numbers below n, for every test.
-- Assumes nothing.
use Prim.Native.Nat.{ℕ, zero, suc, ◌+◌, ◌≤◌, ◌<◌}
use mathlib.Core.Path.{◌≡◌, refl, sym, ap, ap₂, ◌∙◌}
use mathlib.Core.Bool.{Bool, true, false, not, ◌&&◌, ◌||◌, and-true, and-false}
use native.Mathlib.Omega.{arith}
use native.Mathlib.Numerals.{add-one}
use native.Mathlib.Decide.{ℕ_discrete}
use lib.Dec.{eqb}
use borrow.Author.Tests.{eq-eqb, ne_eqb, eqb-true}
use Rattle.position.specs.Tally.{tally, any}
pub use Rattle.grid.proofs.Tests.{both_yes}

-- a number below n that passes
pub record Some (t : ℕ → Bool) (n : ℕ) : Type 0 where
  pub at : ℕ
  pub below : at < n
  pub passes : t at ≡ true

some_more : {t : ℕ → Bool} {n : ℕ} → Some t n → Some t (suc n)
some_more s = record { at = s.at; below = omega arith; passes = s.passes }

-- no test's answer is both
pub not_both : {A : Type 0} (b : Bool) → b ≡ true → b ≡ false → A
not_both b p q = let z : ◌≡◌ {A = ℕ} 0 1 = cc in absurd (omega arith)

-- the parts of a test
pub neither : (x y : Bool) → (x || y) ≡ false → (x ≡ false) × (y ≡ false)
neither true y e = not_both true refl e
neither false y e = (refl, e)

-- two numbers are the same or not
pub same_or : {A : Type 0} (k n : ℕ) → (k ≡ n → A) → ((k ≡ n → ⊥) → A) → A
same_or {A} k n f g = at (ℕ_discrete k n)
  where
    at : Dec (k ≡ n) → A
    at (yes e) = f e
    at (no h) = g h

-- either answer of a test
pub either : {A : Type 0} (b : Bool) → (b ≡ true → A) → (b ≡ false → A) → A
either true f g = f refl
either false f g = g refl

module _ (t : ℕ → Bool) (n : ℕ) where
  hit : t n ≡ true → tally t (suc n) ≡ tally t n + 1
  unfolding tally
  hit e = simp e

  miss : t n ≡ false → tally t (suc n) ≡ tally t n
  unfolding tally
  miss e = simp e

  -- one number more, which passes or does not
  pub tally_hit : t n ≡ true → tally t (n + 1) ≡ tally t n + 1
  tally_hit e = ap (tally t) (add-one n) ∙ hit e

  pub tally_miss : t n ≡ false → tally t (n + 1) ≡ tally t n
  tally_miss e = ap (tally t) (add-one n) ∙ miss e

  here : t n ≡ true → any t (suc n) ≡ true
  unfolding any
  here e = simp e

  past : t n ≡ false → any t (suc n) ≡ any t n
  unfolding any
  past e = simp e

  pub any_hit : t n ≡ true → any t (n + 1) ≡ true
  any_hit e = ap (any t) (add-one n) ∙ here e

  pub any_miss : t n ≡ false → any t (n + 1) ≡ any t n
  any_miss e = ap (any t) (add-one n) ∙ past e

  pub any_step : any t (n + 1) ≡ (t n || any t n)
  unfolding any
  any_step = rw add-one

module _ (t : ℕ → Bool) where
  pub tally_zero : tally t 0 ≡ 0
  unfolding tally
  tally_zero = refl

  pub any_zero : any t 0 ≡ false
  unfolding any
  any_zero = refl

  pub tally_most : (n : ℕ) → tally t n ≤ n
  tally_most zero = omega (arith, tally_zero)
  tally_most (suc n) =
      let h = tally_most n in
      either (t n) (λ e. omega (arith, hit t n e)) (λ e. omega (arith, miss t n e))

  -- counting on never counts less
  pub tally_grows : (m n : ℕ) → m ≤ n → tally t m ≤ tally t n
  tally_grows m zero l = let e : m ≡ 0 = omega arith in omega (arith, ap (tally t) e)
  tally_grows m (suc n) l =
      same_or m (suc n) (λ e. omega (arith, ap (tally t) e))
      (λ d.
      let h = tally_grows m n (omega arith) in
      either (t n) (λ e. omega (arith, hit t n e)) (λ e. omega (arith, miss t n e)))

  -- where some pass, there is one; where none passes, each fails
  pub tally_some : (n : ℕ) → 1 ≤ tally t n → Some t n
  tally_some zero l = absurd (omega (arith, tally_zero))
  tally_some (suc n) l =
      either (t n)
      (λ e. record { at = n; below = omega arith; passes = e })
      (λ e. some_more (tally_some n (omega (arith, miss t n e))))

  pub tally_pos : (n k : ℕ) → k < n → t k ≡ true → 1 ≤ tally t n
  tally_pos zero k l e = absurd (omega arith)
  tally_pos (suc n) k l e =
      either (t n)
      (λ p. omega (arith, hit t n p))
      (λ p. same_or k n (λ q. not_both (t n) (ap t (sym q) ∙ e) p) (λ h. omega (arith, miss t n p, tally_pos n k (omega arith) e)))

  pub any_some : (n : ℕ) → any t n ≡ true → Some t n
  any_some zero e = not_both (any t 0) e any_zero
  any_some (suc n) e =
      either (t n)
      (λ p. record { at = n; below = omega arith; passes = p })
      (λ p. some_more (any_some n (sym (past t n p) ∙ e)))

  pub any_true : (n k : ℕ) → k < n → t k ≡ true → any t n ≡ true
  any_true zero k l e = absurd (omega arith)
  any_true (suc n) k l e =
      either (t n)
      (λ p. here t n p)
      (λ p. same_or k n (λ q. not_both (t n) (ap t (sym q) ∙ e) p) (λ h. past t n p ∙ any_true n k (omega arith) e))

  pub any_false : (n k : ℕ) → any t n ≡ false → k < n → t k ≡ false
  any_false n k z l = either (t k) (λ e. not_both (any t n) (any_true n k l e) z) (λ e. e)

  pub any_never : (n : ℕ) → ((k : ℕ) → k < n → t k ≡ false) → any t n ≡ false
  any_never n f = either (any t n) (λ e. let s = any_some n e in not_both (t s.at) s.passes (f s.at s.below)) (λ e. e)

-- the test that passes more counts more
pub tally_le : (t s : ℕ → Bool) (n : ℕ) → ((k : ℕ) → k < n → t k ≡ true → s k ≡ true) → tally t n ≤ tally s n
tally_le t s zero f = omega (arith, tally_zero t)
tally_le t s (suc n) f =
    let h = tally_le t s n (λ k l. f k (omega arith)) in
    either (t n)
    (λ e. omega (arith, hit t n e, hit s n (f n (omega arith) e)))
    (λ e. either (s n) (λ q. omega (arith, miss t n e, hit s n q)) (λ q. omega (arith, miss t n e, miss s n q)))

-- tests that agree count alike
pub tally_same : (t s : ℕ → Bool) (n : ℕ) → ((k : ℕ) → k < n → t k ≡ s k) → tally t n ≡ tally s n
tally_same t s n f =
    let a = tally_le t s n (λ k l e. sym (f k l) ∙ e) in
    let b = tally_le s t n (λ k l e. f k l ∙ e) in
    omega arith

-- and are passed by some or by none
pub any_same : (t s : ℕ → Bool) (n : ℕ) → ((k : ℕ) → k < n → t k ≡ s k) → any t n ≡ any s n
unfolding any
any_same t s zero f = refl
any_same t s (suc n) f = ap₂ ◌||◌ (f n (omega arith)) (any_same t s n (λ k l. f k (omega arith)))

-- the test for the numbers that f takes to x
unfoldable pub equals : (ℕ → ℕ) → ℕ → ℕ → Bool
equals f x k = eqb (f k) x

module _ (f : ℕ → ℕ) (x k : ℕ) where
  pub equals_yes : f k ≡ x → equals f x k ≡ true
  unfolding equals
  equals_yes e = eq-eqb (f k) x e

  pub equals_no : (f k ≡ x → ⊥) → equals f x k ≡ false
  unfolding equals
  equals_no e = ne_eqb (f k) x e

  pub equals_is : equals f x k ≡ true → f k ≡ x
  unfolding equals
  equals_is e = eqb-true (f k) x e

-- the same test, that number u fails
unfoldable pub but : (ℕ → Bool) → ℕ → ℕ → Bool
but t u w = t w && not (eqb w u)

module _ (t : ℕ → Bool) (u : ℕ) where
  pub but_other : (w : ℕ) → (w ≡ u → ⊥) → but t u w ≡ t w
  unfolding but
  but_other w h = simp (ne_eqb w u h, and-true)

  pub but_self : (w : ℕ) → w ≡ u → but t u w ≡ false
  unfolding but
  but_self w e = simp (eq-eqb w u e, and-false)

  -- it counts one less, where u passes
  before : (n : ℕ) → n ≤ u → tally t n ≡ tally (but t u) n
  before n l = tally_same t (but t u) n (λ k m. sym (but_other k (omega arith)))

  pub tally_but_miss : (n : ℕ) → t u ≡ false → tally t n ≡ tally (but t u) n
  tally_but_miss n e = tally_same t (but t u) n (λ k m. same_or k u (λ q. ap t q ∙ e ∙ sym (but_self k q)) (λ h. sym (but_other k h)))

  pub tally_but_hit : (n : ℕ) → u < n → t u ≡ true → tally t n ≡ tally (but t u) n + 1
  tally_but_hit zero l e = absurd (omega arith)
  tally_but_hit (suc n) l e =
      same_or n u
      (λ q. omega (arith, hit t n (ap t q ∙ e), miss (but t u) n (but_self n q), before n (omega arith)))
      (λ h.
      let i = tally_but_hit n (omega arith) e in
      let o = but_other n h in
      either (t n)
      (λ p. omega (arith, hit t n p, hit (but t u) n (o ∙ p)))
      (λ p. omega (arith, miss t n p, miss (but t u) n (o ∙ p))))
