-- Beside what is certain: vocabulary of contracts and proofs.
-- What the judging functions answer: they go on to whatever follows, or stop with a refusal.
-- Assumes nothing.
use Rattle.std.specs.Prelude.{ℕ, ◌<◌, ◌≡◌, Bool, List, Result, Ok, Err}
use Rattle.ruling.specs.Verdict.{Verdict, Ruling, Met}
use Rattle.ruling.specs.Judged.{Passes, Stops}
use Rattle.march.specs.Move.{Leg}
use Rattle.ruling.specs.Refused.{number_of, place_of}
use Rattle.ruling.specs.declared.refusal.Refusal.{Refusal}

-- spent and zone are what the move has spent after the tests, never more than an allowance can be, and whether it is in an Enemy zone
pub record Onward (p : List ℕ) (f : Verdict → Verdict) (want : ℕ) (there : Bool) (spent : ℕ) (zone : Bool) : Type 0 where
  pub passes : Passes p f
  pub is : spent ≡ want
  pub small : spent < 256
  pub enters : zone ≡ there

abbrev pub WayOf : List ℕ → (Verdict → Verdict) → ℕ → Bool → Result (ℕ × Bool) Refusal → Type 0
WayOf p f want there (Ok (spent, zone)) = Onward p f want there spent zone
WayOf p f want there (Err r) = Stops p f (number_of r) (place_of r)

-- the tests of a path are passed, and it ends at hex h
pub record Arrives (p : List ℕ) (f : (Leg → Verdict) → Verdict) (h : ℕ) : Type 0 where
  pub leg : Leg
  pub at : leg.at ≡ h
  pub passes : (l : List ℕ) (v : Leg → Verdict) (a : Ruling) (q m : List ℕ) → Met p l (v leg) a q m → Met p l (f v) a q m

abbrev pub PathOf : List ℕ → ((Leg → Verdict) → Verdict) → Result ℕ Refusal → Type 0
PathOf p f (Ok h) = Arrives p f h
PathOf p f (Err r) = Stops p f (number_of r) (place_of r)
