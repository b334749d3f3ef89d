-- Answers of tests, used: past an `if !f(..)` or in it, and along a loop that asks every number and stops at the first no.
-- Assumes nothing.
use Prim.Native.Nat.{ℕ, ◌+◌, ◌≤◌, ◌<◌}
use mathlib.Core.Path.{◌≡◌, refl, sym, subst, ◌∙◌}
use mathlib.Core.Bool.{Bool, true, false}
use native.Mathlib.Omega.{arith}
use borrow.Author.Count.{below_more}
use Rattle.position.specs.Shape.{In}
use Rattle.position.specs.Laid.{Says}
use Rattle.position.proofs.Tallies.{not_both}

-- past `if !b { return .. }`, and in it
pub said : {A : Type 0} (b : Bool) → b ≡ true → Says b A → A
said true e s = s
said false e s = cc

pub unsaid : {A : Type 0} (b : Bool) → b ≡ false → Says b A → A → ⊥
unsaid true e s = cc
unsaid false e s = s

-- an answer handed on: what it speaks of and what is asked follow from each other
pub told : {A B : Type 0} (b : Bool) → (A → B) → (B → A) → Says b A → Says b B
told true f g s = f s
told false f g s = λ y. s (g y)

-- a test that holds exactly where the fact does
pub says : {A : Type 0} (b : Bool) → (b ≡ true → A) → (A → b ≡ true) → Says b A
says true f g = f refl
says false f g = λ x. not_both false (g x) refl

-- the same two places, where the test's answer is another truth value
module _ {b t : Bool} (e : b ≡ t) where
  pub holds : b ≡ true → t ≡ true
  holds l = sym e ∙ l

  pub fails : b ≡ false → t ≡ true → ⊥
  fails l h = not_both t h (sym e ∙ l)

-- a number within limits, by another name of it
pub carry : {lo n m hi : ℕ} → n ≡ m → In lo n hi → In lo m hi
carry {lo} {hi = hi} e i = subst (λ (x : ℕ). In lo x hi) e i

-- every number below i, which is at most n, has passed
pub record Passed (P : ℕ → Type 0) (i n : ℕ) : Type 0 where
  pub most : i ≤ n
  pub held : (k : ℕ) → k < i → P k

pub none_yet : {P : ℕ → Type 0} {n : ℕ} → Passed P 0 n
none_yet = record { most = omega arith; held = λ k l. absurd (omega arith) }

module _ {P : ℕ → Type 0} {i n : ℕ} where
  pub one_more : Passed P i n → i < n → P i → Passed P (i + 1) n
  one_more s l x = record { most = omega arith; held = below_more P i s.held x }

  pub all : {m : ℕ} → Passed P i n → m ≤ i → (k : ℕ) → k < m → P k
  all s l k h = s.held k (omega arith)

  pub not_all : {m : ℕ} → Passed P i n → i < m → (P i → ⊥) → ((k : ℕ) → k < m → P k) → ⊥
  not_all s l fail f = fail (f i l)
