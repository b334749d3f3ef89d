-- An answer as the C library's number: the low byte is the refusal's number, 0 if accepted; bits 8 to 23 are the refusal's place.
-- Of a battle bits 8 to 15 are the column and bits 16 to 31 the code; of a retreat bits 8 to 15 are 1 or, for a group that is destroyed, 2,
-- and bits 16 to 31 the end.
-- Assumes nothing.
use Rattle.std.specs.Prelude.{ℕ, ◌+◌, ◌*◌, ◌/◌, ◌%◌, ◌≤◌, ◌<◌, ◌≡◌, cond, ◌↔◌, ◌⊎◌, eqb}
use Rattle.ruling.specs.Values.{Manner, Values, accepting, fought_with, retreated_to, eliminated}
use Rattle.ruling.specs.Values.Manner.{plain, fought, retreated, destroyed}
use Rattle.ruling.specs.Verdict.{Ruling}
use Rattle.ruling.specs.Verdict.Ruling.{refused, accepted}
use Rattle.ruling.specs.Answers.{IsAccepted}

unfoldable pub refusal_of : ℕ → ℕ → ℕ
refusal_of n k = n % 256 + 256 * (k % 65536)

-- the values of an accepted answer stand above the low byte
unfoldable pub values_of : Manner → Values → ℕ
values_of plain vs = 0
values_of fought vs = 256 * (vs.column % 256) + 65536 * (vs.code % 65536)
values_of retreated vs = 256 + 65536 * (vs.hex % 65536)
values_of destroyed vs = 512

unfoldable pub packed : Ruling → ℕ
packed (refused n k) = refusal_of n k
packed (accepted vs) = values_of vs.manner vs

-- which answers a call gives: a battle on column 1 with code 5 and a retreat to hex 5 are one number, so that who reads it must know
pub data Replies : Type 0 where
  plainly : Replies
  of_battle : Replies
  of_retreat : Replies

-- the values back from what stands above the low byte
unfoldable pub values_from : Replies → ℕ → Values
values_from plainly n = accepting
values_from of_battle n = fought_with (n % 256) (n / 256)
values_from of_retreat n = cond (eqb (n % 256) 2) eliminated (retreated_to (n / 256))

-- the ruling back from its number
unfoldable pub read_back : Replies → ℕ → Ruling
read_back k r = cond (eqb (r % 256) 0) (accepted (values_from k (r / 256))) (refused (r % 256) (r / 256))

-- the accepted answers of a call that a number has room for
abbrev pub Roomy : Replies → Values → Type 0
Roomy plainly vs = vs ≡ accepting
Roomy of_battle vs = (vs ≡ fought_with vs.column vs.code) × (vs.column < 256) × (vs.code < 65536)
Roomy of_retreat vs = (vs ≡ eliminated) ⊎ ((vs ≡ retreated_to vs.hex) × (vs.hex < 65536))

-- and its refusals: "Refusals by number", 1 to 18, with their places
abbrev pub Packable : Replies → Ruling → Type 0
Packable k (refused n place) = (1 ≤ n) × (n ≤ 18) × (place < 65536)
Packable k (accepted vs) = Roomy k vs

-- A ruling's number is read back: call and number give the ruling, the low byte is 0 exactly if it is accepted, and else it is the
-- refusal's number, 1 to 18.
pub record Packs (k : Replies) (r : Ruling) : Type 0 where
  pub back : read_back k (packed r) ≡ r
  pub low : (packed r % 256 ≡ 0) ↔ IsAccepted r
  pub refusals : (n place : ℕ) → r ≡ refused n place → (packed r % 256 ≡ n) × (1 ≤ n) × (n ≤ 18)
