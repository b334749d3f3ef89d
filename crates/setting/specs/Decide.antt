-- Decisions, put together from smaller ones.
-- Assumes nothing.
use Rattle.std.specs.Prelude.{ℕ, zero, suc, ◌<◌, ◌≡◌, refl, Bool, true, false, Option, Some, None}
use Rattle.std.proofs.Common.{arith}
use Rattle.std.proofs.Math.Decide.{ℕ_discrete}

-- what follows from each other is decided together
unfoldable pub iff : {A B : Type 0} → (A → B) → (B → A) → Dec A → Dec B
iff f g (yes a) = yes (f a)
iff f g (no h) = no (λ b. h (g b))

unfoldable pub both : {A B : Type 0} → Dec A → Dec B → Dec (A × B)
both (yes a) (yes b) = yes (a, b)
both (yes a) (no h) = no (λ x. h x.1)
both (no h) d = no (λ x. h x.0)

unfoldable pub given : {A B : Type 0} → Dec A → Dec B → Dec (A → B)
given (no h) d = yes (λ a. absurd (h a))
given (yes a) (yes b) = yes (λ x. b)
given (yes a) (no h) = no (λ f. h (f a))

unfoldable pub never : {A : Type 0} → Dec A → Dec (A → ⊥)
never (yes a) = no (λ f. f a)
never (no h) = yes h

unfoldable pub last : {P : ℕ → Type 0} (n : ℕ) → Dec ((k : ℕ) → k < n → P k) → Dec (P n) → Dec ((k : ℕ) → k < suc n → P k)
last {P} n (no h) d = no (λ f. h (λ k l. f k (omega arith)))
last {P} n (yes f) (no h) = no (λ g. h (g n (omega arith)))
last {P} n (yes f) (yes a) = yes (λ k l. at k l (ℕ_discrete k n))
  where
    at : (k : ℕ) → k < suc n → Dec (k ≡ n) → P k
    at k l (yes e) = rw e a
    at k l (no h) = f k (omega arith)

-- a fact of every number below n
unfoldable pub below : {P : ℕ → Type 0} → ((k : ℕ) → Dec (P k)) → (n : ℕ) → Dec ((k : ℕ) → k < n → P k)
below d zero = yes (λ k h. absurd (omega arith))
below d (suc n) = last n (below d n) (d n)

unfoldable pub holds? : (t : Bool) → Dec (t ≡ true)
holds? true = yes refl
holds? false = no (λ e. let z : ◌≡◌ {A = ℕ} 0 1 = cc in omega arith)

unfoldable pub off? : (b : Option ℕ) → Dec (b ≡ None)
off? None = yes refl
off? (Some n) = no (λ e. let z : ◌≡◌ {A = ℕ} 0 1 = cc in omega arith)

-- whether a decision says no
unfoldable pub answers_no : {A : Type 0} → Dec A → Bool
answers_no (yes a) = false
answers_no (no h) = true

pub says_no : {A : Type 0} (d : Dec A) → (A → ⊥) → answers_no d ≡ true
unfolding answers_no
says_no (yes a) n = absurd (n a)
says_no (no h) n = refl

pub says_yes : {A : Type 0} (d : Dec A) → A → answers_no d ≡ false
unfolding answers_no
says_yes (yes a) x = refl
says_yes (no h) x = absurd (h x)
