-- Every answer of a verdict has room in a number: past a test, along a list, through what is turned over, and at the end.
-- Assumes nothing.
use Prim.Native.Nat.{ℕ, ◌+◌, ◌≤◌, ◌<◌}
use mathlib.Core.Path.{◌≡◌, refl}
use mathlib.Core.Bool.{Bool, true, false, ◌&&◌}
use mathlib.Core.List.{List, [], ◌∷◌}
use native.Mathlib.Omega.{arith}
use lib.ListN.{length}
use lib.Dec.{leb}
use Rattle.position.specs.Layout.{strength}
use Rattle.position.specs.Change.{Change, turned}
use borrow.Author.Tests.{leb-true}
use Rattle.position.proofs.Tallies.{both_yes}
use Rattle.acceptance.specs.Accepted.{Accepted}
use Rattle.acceptance.specs.Broken.{accepted?, broken_true, broken_false}
use Rattle.ruling.specs.Values.{Values}
use Rattle.ruling.specs.Verdict.{Judge, Verdict, after_check, along, judged, outcome, reveal_all}
use Rattle.ruling.specs.Verdict.Judge.{rule}
use Rattle.ruling.specs.Verdict.Verdict.{refuse_if, judge}
use Rattle.ruling.specs.Packed.{Replies, Roomy, Packable}
use Rattle.ruling.specs.Secret.{Each}

-- what a verdict answers has room in a number
pub record Bounded (k : Replies) (p l : List ℕ) (v : Verdict) : Type 0 where
  pub ok : Packable k (outcome p l v).answer

-- a refusal's number, as a test that computes
abbrev pub numbered : ℕ → Bool
numbered n = leb 1 n && leb n 18

module _ {k : Replies} {p l : List ℕ} where
  -- past a test with its number and place; what follows may use that it does not hold
  pub bounded_at :
      {n place : ℕ} {v : Verdict} (t : Bool) → numbered n ≡ true → place < 65536 → (t ≡ false → Bounded k p l v)
      → Bounded k p l (refuse_if t n place v)
  unfolding outcome
  bounded_at {n} true e i f =
      let z = both_yes (leb 1 n) (leb n 18) e in
      record { ok = (leb-true 1 n z.0, leb-true n 18 z.1, i) }
  bounded_at false e i f = record { ok = (f refl).ok }

  -- with place 0
  pub bounded_past : {n : ℕ} {v : Verdict} (t : Bool) → numbered n ≡ true → (t ≡ false → Bounded k p l v) → Bounded k p l (refuse_if t n 0 v)
  bounded_past t e f = bounded_at t e (omega arith) f

  -- along a list whose places fit; what the tests of each place leave is known of all places at the end
  pub bounded_each :
      (Q : ℕ → Type 0) {S : Type 0} {test : S → ℕ → ℕ → Verdict → Verdict} (next : S → ℕ → S)
      → ((s : S) (x place : ℕ) (v : Verdict) → place < 65536 → (Q x → Bounded k p l v) → Bounded k p l (test s x place v))
      → (s : S) (xs : List ℕ) (place : ℕ) (v : S → Verdict) → place + length xs ≤ 65536
      → (Each Q xs → (s : S) → Bounded k p l (v s)) → Bounded k p l (along test next s xs place v)
  unfolding along
  bounded_each Q next f s [] place v i g = g tt s
  bounded_each Q next f s (x ∷ xs) place v i g =
      f s x place _ (omega arith)
      (λ q. bounded_each Q next f (next s x) xs (place + 1) v (omega arith) (λ h. g (q, h)))

  -- at the end
  pub bounded_ruled : {vs : Values} {xs : List Change} {m : List ℕ} → Roomy k vs → Bounded k p l (judge (rule vs xs m))
  unfolding outcome judged
  bounded_ruled h = record { ok = h }

  -- past the check
  pub bounded_checked : {v : Verdict} → (Accepted p → Bounded k p l v) → Bounded k p l (after_check p v)
  unfolding after_check outcome
  bounded_checked {v} f = at (accepted? p)
    where
      at : Dec (Accepted p) → Bounded k p l (after_check p v)
      at (yes a) = rw (broken_false a) (record { ok = (f a).ok })
      at (no n) = rw (broken_true n) (record { ok = (omega arith, omega arith, omega arith) })

-- through units that are turned over, whatever their strengths
shown_bounded :
    (k : Replies) (us : List ℕ) (f : List ℕ → Judge) → ((p ss : List ℕ) → Packable k (judged p (f ss)).answer) → (p : List ℕ)
    → Packable k (judged p (reveal_all us f)).answer
unfolding judged reveal_all
shown_bounded k [] f h p = h p []
shown_bounded k (u ∷ us) f h p =
    shown_bounded k us (λ ss. f (strength p u ∷ ss)) (λ q ss. h q (strength p u ∷ ss)) (turned p u)

pub bounded_seen :
    {k : Replies} {p l : List ℕ} (us : List ℕ) (f : List ℕ → Judge) → ((p ss : List ℕ) → Packable k (judged p (f ss)).answer)
    → Bounded k p l (judge (reveal_all us f))
unfolding outcome
bounded_seen {k} {p} us f h = record { ok = shown_bounded k us f h p }
