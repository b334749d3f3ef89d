-- Laws of a table's cells, and of bytes that are all 0.
-- Assumes nothing.
use Prim.Native.Nat.{ℕ, zero, suc, ◌+◌, ◌*◌, ◌≤◌, ◌<◌}
use mathlib.Core.Path.{◌≡◌, refl, ap, ap₂, ◌∙◌}
use mathlib.Core.List.{List}
use native.Mathlib.Omega.{arith}
use native.Mathlib.Nat.{mul-le-mul_left, mul-suc}
use lib.ListN.{length, replicate}
use borrow.Author.Tests.{lt-ltb, le-ltb}
use Rattle.position.specs.Layout.{byte, cell}
use Rattle.position.specs.Laid.{Read}

-- a record of the table lies within the table
pub inside : (size n k f : ℕ) → k < n → f < size → size * k + f < size * n
inside size n k f l m =
    let most : size * suc k ≤ size * n = mul-le-mul_left size l in
    omega (arith, mul-suc size k)

module _ (p : List ℕ) (start size n k f : ℕ) where
  pub cell_in : k < n → cell p start size n k f ≡ byte p (start + size * k + f)
  unfolding cell
  cell_in l = simp (lt-ltb k n l)

  pub cell_out : n ≤ k → cell p start size n k f ≡ 0
  unfolding cell
  cell_out l = simp (le-ltb k n l)

-- a cell that was read, by other names of its table's start and length
pub read_at :
    (p : List ℕ) {s s' n n' : ℕ} (size k f : ℕ) {r : ℕ} → Read (cell p s size n k f) 256 r → s ≡ s' → n ≡ n'
    → Read (cell p s' size n' k f) 256 r
read_at p size k f c e g =
    record { is = c.is ∙ ap₂ (λ (a b : ℕ). cell p a size b k f) e g; small = c.small }

-- bytes that are all 0, by another name of how many there are
pub byte_empty : (n j : ℕ) → byte (replicate n 0) j ≡ 0
byte_empty zero j = refl
byte_empty (suc n) zero = refl
byte_empty (suc n) (suc j) = byte_empty n j

pub all_clear : {m : List ℕ} (l : List ℕ) (k : ℕ) → m ≡ replicate (length l) 0 → length l ≡ k → m ≡ replicate k 0
all_clear l k e f = e ∙ ap (λ (n : ℕ). replicate n 0) f
