-- An accepted position stays accepted along a verdict: past a test, along a list, and at the end where the changes leave a lawful board.
-- Assumes nothing.
use Prim.Native.Nat.{ℕ, ◌+◌}
use mathlib.Core.Path.{◌≡◌, refl}
use mathlib.Core.Bool.{Bool, true, false}
use mathlib.Core.List.{List, [], ◌∷◌}
use Rattle.position.specs.Board.{board}
use Rattle.acceptance.specs.Accepted.{Lawful, Accepted}
use Rattle.acceptance.specs.Broken.{broken}
use Rattle.position.specs.Change.{Change}
use Rattle.position.specs.Effect.{changes}
use Rattle.acceptance.proofs.Keeps.{accepted_makes}
use Rattle.ruling.specs.Values.{Values}
use Rattle.ruling.specs.Verdict.{Verdict, after_check, along, judged, outcome}
use Rattle.ruling.specs.Verdict.Judge.{rule}
use Rattle.ruling.specs.Verdict.Verdict.{refuse_if, judge}

-- the position that a verdict leaves is accepted
pub record Kept (p l : List ℕ) (v : Verdict) : Type 0 where
  pub ok : Accepted (outcome p l v).position

module _ {p l : List ℕ} (a : Accepted p) where
  -- what follows a test may use that it does not hold
  pub kept_past : {n k : ℕ} {v : Verdict} (t : Bool) → (t ≡ false → Kept p l v) → Kept p l (refuse_if t n k v)
  unfolding outcome
  kept_past true f = record { ok = a }
  kept_past false f = record { ok = (f refl).ok }

  -- past the check
  pub kept_checked : {v : Verdict} → Kept p l v → Kept p l (after_check p v)
  unfolding after_check
  kept_checked k = kept_past (broken p) (λ _. k)

  -- what holds of the state before a place holds after it, where the place's tests do not refuse
  pub kept_along :
      {S : Type 0} (P : S → Type 0) {test : S → ℕ → ℕ → Verdict → Verdict} {next : S → ℕ → S}
      → ((s : S) (x k : ℕ) (v : Verdict) → P s → (P (next s x) → Kept p l v) → Kept p l (test s x k v))
      → (s : S) → P s → (xs : List ℕ) (k : ℕ) (v : S → Verdict) → ((s : S) → P s → Kept p l (v s))
      → Kept p l (along test next s xs k v)
  unfolding along
  kept_along P f s h [] k v g = g s h
  kept_along P {next = next} f s h (x ∷ xs) k v g = f s x k _ h (λ i. kept_along P f (next s x) i xs (k + 1) v g)

  pub kept_ruled : {vs : Values} {m : List ℕ} (xs : List Change) → Lawful (changes (board p) xs) → Kept p l (judge (rule vs xs m))
  unfolding outcome judged
  kept_ruled xs h = record { ok = accepted_makes a xs h }
