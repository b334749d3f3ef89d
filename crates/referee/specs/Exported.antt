-- What an export answers with: the number of its call's answer.
-- Assumes nothing.
use Rattle.std.specs.Prelude.{ℕ, ◌≡◌, List}
use Rattle.ruling.specs.Verdict.{Verdict, Ruling, Met}
use Rattle.ruling.specs.Packed.{packed}

-- the number r is a call's answer, and the promise is met
pub record Exported (p l : List ℕ) (v : Verdict) (r : ℕ) (q m : List ℕ) : Type 0 where
  pub answer : Ruling
  pub packs : r ≡ packed answer
  pub met : Met p l v answer q m

-- "Two results that fit the same promise are proved equal": the number returned, and every byte. Proved in proofs/One.antt.
abbrev pub OneExport : Type 0
OneExport =
    (p l : List ℕ) (v : Verdict) (r r' : ℕ) (q q' m m' : List ℕ) → Exported p l v r q m → Exported p l v r' q' m'
    → (r ≡ r') × (q ≡ q') × (m ≡ m')
