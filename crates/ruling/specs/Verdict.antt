-- The language that rules are written in. A verdict is a row of tests, each with its refusal, and then a judgement.
-- All tests come before anything is turned over, and a refusal changes nothing.
-- Assumes nothing.
use Rattle.std.specs.Prelude.{ℕ, ◌+◌, ◌≡◌, Bool, true, false, List, [], ◌∷◌}
use Rattle.position.specs.Layout.{strength}
use Rattle.position.specs.Change.{Change, makes, turned}
use Rattle.acceptance.specs.Broken.{broken}
use Rattle.ruling.specs.Values.{Values}

-- a unit is turned over and its strength handed on; at the end stand the answer's values, the changes, and the bytes handed back
pub data Judge : Type 0 where
  reveal : ℕ → (ℕ → Judge) → Judge
  rule : Values → List Change → List ℕ → Judge

-- "Each answers its number with the offending place": test, number, place, and what follows where the test does not hold
pub data Verdict : Type 0 where
  refuse_if : Bool → ℕ → ℕ → Verdict → Verdict
  judge : Judge → Verdict

-- "1 | position breaks a line above; nothing further is looked at": the rule on a checked position comes after the check
unfoldable pub after_check : List ℕ → Verdict → Verdict
after_check p v = refuse_if (broken p) 1 0 v

-- units turned over one after another, and their strengths handed on
unfoldable pub reveal_all : List ℕ → (List ℕ → Judge) → Judge
reveal_all [] k = k []
reveal_all (u ∷ us) k = reveal u (λ s. reveal_all us (λ ss. k (s ∷ ss)))

unfoldable pub turned_all : List ℕ → List ℕ → List ℕ
turned_all p [] = p
turned_all p (u ∷ us) = turned_all (turned p u) us

-- The tests along a list, from place k on: `test s x k` are those of element x, with what the elements before it came to, s.
-- "Checks go along the list": every question for one place, then every question for the next.
unfoldable pub along : {S : Type 0} → (S → ℕ → ℕ → Verdict → Verdict) → (S → ℕ → S) → S → List ℕ → ℕ → (S → Verdict) → Verdict
along test next s [] k v = v s
along test next s (x ∷ xs) k v = test s x k (along test next (next s x) xs (k + 1) v)

-- an answer in document 01's numbers: a refusal's number and place, or the values of what is accepted
pub data Ruling : Type 0 where
  refused : ℕ → ℕ → Ruling
  accepted : Values → Ruling

-- what a call answers, and what it leaves of the position and of the buffer that was lent
pub record Outcome : Type 0 where
  pub answer : Ruling
  pub position : List ℕ
  pub lent : List ℕ

unfoldable pub judged : List ℕ → Judge → Outcome
judged p (reveal u k) = judged (turned p u) (k (strength p u))
judged p (rule vs xs l) = record { answer = accepted vs; position = makes p xs; lent = l }

-- "every lent byte stays" where a call is refused
unfoldable pub outcome : List ℕ → List ℕ → Verdict → Outcome
outcome p l (refuse_if true n k v) = record { answer = refused n k; position = p; lent = l }
outcome p l (refuse_if false n k v) = outcome p l v
outcome p l (judge j) = judged p j

-- What each public call promises: its answer, every byte of the position and every byte of the lent buffer afterwards
-- ([] for a call that borrows nothing). One promise for all calls.
pub record Met (p l : List ℕ) (v : Verdict) (a : Ruling) (q m : List ℕ) : Type 0 where
  pub answers : a ≡ (outcome p l v).answer
  pub leaves : q ≡ (outcome p l v).position
  pub lends : m ≡ (outcome p l v).lent

-- the units that a judgement turns over
unfoldable pub revealed_by : List ℕ → Judge → List ℕ
revealed_by p (reveal u k) = u ∷ revealed_by (turned p u) (k (strength p u))
revealed_by p (rule vs xs l) = []

unfoldable pub revealed : List ℕ → Verdict → List ℕ
revealed p (refuse_if true n k v) = []
revealed p (refuse_if false n k v) = revealed p v
revealed p (judge j) = revealed_by p j
