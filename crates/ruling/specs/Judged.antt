-- Beside what is certain: vocabulary of contracts and proofs.
-- What the judging functions answer: they go on to whatever follows, or stop with a refusal.
-- Assumes nothing.
use Rattle.std.specs.Prelude.{ℕ, List, Result, Ok, Err}
use Rattle.ruling.specs.Verdict.{Verdict, Ruling, Met}
use Rattle.ruling.specs.Verdict.Ruling.{refused}
use Rattle.ruling.specs.Refused.{number_of, place_of}
use Rattle.ruling.specs.declared.refusal.Refusal.{Refusal}

-- the tests f are passed: whatever meets what follows meets them and what follows
abbrev pub Passes : List ℕ → (Verdict → Verdict) → Type 0
Passes p f = (l : List ℕ) (v : Verdict) (a : Ruling) (q m : List ℕ) → Met p l v a q m → Met p l (f v) a q m

-- the tests f refuse with number n and place k, whatever follows
abbrev pub Stops : {A : Type 0} → List ℕ → (A → Verdict) → ℕ → ℕ → Type 0
Stops {A} p f n k = (l : List ℕ) (v : A) → Met p l (f v) (refused n k) p l

-- the answer of a row of tests; where they are passed, P is known besides
abbrev pub TestedOf : List ℕ → (Verdict → Verdict) → Type 0 → Result (Unit {0}) Refusal → Type 0
TestedOf p f P (Ok u) = Passes p f × P
TestedOf p f P (Err r) = Stops p f (number_of r) (place_of r)
