-- The numbers that pass a test, as a list: each is named once; and a list of units passes refusal 3.
-- Assumes nothing.
use Prim.Native.Nat.{ℕ, zero, suc, ◌+◌, ◌<◌}
use mathlib.Core.Path.{◌≡◌, refl}
use mathlib.Core.Bool.{Bool, true}
use mathlib.Core.List.{List, [], ◌∷◌, append-nil}
use native.Mathlib.Omega.{arith}
use borrow.Author.Tests.{lt-leb}
use Rattle.position.specs.Board.{Board}
use Rattle.position.proofs.Tallies.{either}
use Rattle.ruling.specs.Judged.{Passes}
use Rattle.ruling.specs.Verdict.{along}
use Rattle.ruling.proofs.Meets.{pass}
use Rattle.field.specs.Listed.{all_there, named, no_unit, sieve}
use Rattle.field.proofs.Named.{Once, named_each, named_here, named_more, once_last, sieve_each}

module _ (t : ℕ → Bool) where
  -- who is named passes
  pub sieve_passes : (n w : ℕ) → named (sieve t n) w ≡ true → (w < n) × (t w ≡ true)
  sieve_passes n w e = named_each (λ w. (w < n) × (t w ≡ true)) (sieve t n) (sieve_each t n) w e

  pub sieve_once : (n : ℕ) → Once (sieve t n)
  unfolding sieve
  sieve_once zero = tt
  sieve_once (suc n) =
      either (t n)
      (λ e.
      simp e
      (once_last (sieve t n) n (sieve_once n)
      (either (named (sieve t n) n) (λ f. absurd (omega (arith, (sieve_passes n n f).0))) (λ f. f))))
      (λ e. simp (e, append-nil) (sieve_once n))

module _ (p : List ℕ) (b : Board) where
  there_from :
      (xs : List ℕ) (k : ℕ) → ((w : ℕ) → named xs w ≡ true → w < b.units.count)
      → Passes p (λ v. along (no_unit b) (λ s x. s) 0 xs k (λ s. v))
  unfolding along no_unit
  there_from [] k f l v a q m g = g
  there_from (x ∷ xs) k f l v a q m g =
      pass (lt-leb b.units.count x (f x (named_here x xs x refl)))
      (there_from xs (k + 1) (λ w e. f w (named_more x xs w e)) l v a q m g)

  pub there_passes : (xs : List ℕ) → ((w : ℕ) → named xs w ≡ true → w < b.units.count) → Passes p (all_there b xs)
  unfolding all_there
  there_passes xs f = there_from xs 1 f
