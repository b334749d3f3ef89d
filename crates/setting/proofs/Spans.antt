-- Asking all numbers of a range by blocks, and then the rest one by one.
-- Assumes nothing.
use Rattle.std.specs.Prelude.{ℕ, ◌+◌, ◌-◌, ◌*◌, ◌/◌, ◌%◌, ◌<◌, ◌≤◌, ◌≡◌, Bool, true, false, MatchBool, length, get_or}
use mathlib.Core.Path.{sym, subst, ◌∙◌, refl}
use native.Mathlib.Omega.{arith}
use native.Mathlib.Decide.{dec_lt}
use denote.Param.Members.{Mut}
use Rattle.std.specs.Fn.{Called}
use Rattle.std.specs.Iterator.{ChecksAll}
use Rattle.std.specs.List.{AllWithin, HoldsAt, range_with_len}
use Rattle.std.specs.declared.ops.Range.{Range}
use Rattle.std.proofs.iter.Yields.{nat_range_steps}
use Rattle.std.proofs.lemmas.Iterator.{YieldsList-from_range, cases_from_all}
use Rattle.std.proofs.lemmas.List.FromFn.{length-range_with_len, get_or-range_with_len}
use Rattle.position.specs.Laid.{Says}

module _ (P : ℕ → Type 0) (a b : ℕ) where
  place : (k d : ℕ) → k < b - a → a + k ≡ get_or (range_with_len a (b - a)) k d
  place k d l = sym (get_or-range_with_len a (b - a) k d l)

  settled : (r : Bool) → MatchBool r (AllWithin P (range_with_len a (b - a)) 0 (length (range_with_len a (b - a)))) ((k : ℕ) × (k < length (range_with_len a (b - a))) × HoldsAt (λ x. P x → ⊥) (range_with_len a (b - a)) k) → Says r ((k : ℕ) → a ≤ k → k < b → P k)
  settled true h = λ k m l.
      let e : a + (k - a) ≡ k = omega arith in
      subst P (sym (place (k - a) 0 (omega arith)) ∙ e) (h (k - a) 0 (omega arith) (omega (arith, length-range_with_len a (b - a))))
  settled false h = λ each.
      let l : h.0 < b - a = omega (arith, h.1, length-range_with_len a (b - a)) in
      h.2 0 (subst P (place h.0 0 l) (each (a + h.0) (omega arith) (omega arith)))

  -- `all` over the numbers from a to before b, where each call of the closure says whether the fact holds
  pub all_from : {F : Type 0} {g : Mut F (ℕ × Unit {0}) Bool} {s u : Range ℕ} {f : F} {r : Bool} → s ≡ record { start = a; end = b } → ChecksAll nat_range_steps g s f r u → ((x : ℕ) (b : Bool) (q : F) → Called g f (x, tt) b q → (q ≡ f) × Says b (P x)) → Says r ((k : ℕ) → a ≤ k → k < b → P k)
  all_from {r = r} e ran c =
      settled r
      (cases_from_all _ _ r P (λ x. P x → ⊥) ran (YieldsList-from_range a b (b - a) e refl)
      (λ x q k. c x true q k) (λ x q k. (c x false q k).1))

-- the whole blocks and the rest are all
pub whole : {P : ℕ → Type 0} {w n : ℕ} → ((k : ℕ) → k < w → (j : ℕ) → j < 16 → P (16 * k + j)) → ((h : ℕ) → 16 * w ≤ h → h < n → P h) → (h : ℕ) → h < n → P h
whole {P} {w} {n} blocks rest h l = at (dec_lt h (16 * w))
  where
    at : Dec (h < 16 * w) → P h
    at (no o) = rest h (omega arith) l
    at (yes b) = let e : 16 * (h / 16) + h % 16 ≡ h = omega arith in subst P e (blocks (h / 16) (omega arith) (h % 16) (omega arith))
