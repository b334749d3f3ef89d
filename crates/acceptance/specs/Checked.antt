-- Beside what is certain: vocabulary of contracts and proofs.
-- What `check` answers.
-- Assumes nothing.
use Rattle.std.specs.Prelude.{ℕ, List, Option, Some, None}
use Rattle.position.specs.declared.View.{View}
use Rattle.position.specs.Laid.{Laid}
use Rattle.acceptance.specs.Accepted.{Accepted}

-- its view exactly if the position is accepted, and none exactly if not
abbrev pub CheckedOf : List ℕ → Option View → Type 0
CheckedOf p (Some v) = Accepted p × Laid p v
CheckedOf p None = Accepted p → ⊥
