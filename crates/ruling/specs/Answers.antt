-- What an answer says: the code's answers in document 01's numbers, and words for theorems, which a value more leaves as they are.
-- Assumes nothing.
use Rattle.std.specs.Prelude.{ℕ, ◌≡◌, Result, Ok, Err}
use Rattle.ruling.specs.Values.{Values, accepting}
use Rattle.ruling.specs.Values.Manner.{retreated, destroyed}
use Rattle.ruling.specs.Verdict.{Ruling}
use Rattle.ruling.specs.Verdict.Ruling.{refused, accepted}
use Rattle.ruling.specs.Refused.{refused_as}
use Rattle.ruling.specs.declared.refusal.Refusal.{Refusal}

-- "Calls with no answer named above answer accepted."
abbrev pub answer_as : Result (Unit {0}) Refusal → Ruling
answer_as (Ok u) = accepted accepting
answer_as (Err r) = refused_as r

-- it is accepted
abbrev pub IsAccepted : Ruling → Type 0
IsAccepted (refused n k) = ⊥
IsAccepted (accepted vs) = Unit {0}

-- it answers destroyed
pub record AnswersDestroyed (r : Ruling) : Type 0 where
  pub values : Values
  pub accepts : r ≡ accepted values
  pub manner : values.manner ≡ destroyed

-- it answers retreated to hex h
pub record AnswersRetreated (r : Ruling) (h : ℕ) : Type 0 where
  pub values : Values
  pub accepts : r ≡ accepted values
  pub manner : values.manner ≡ retreated
  pub hex : values.hex ≡ h
