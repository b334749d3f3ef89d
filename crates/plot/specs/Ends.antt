-- Beside what is certain: vocabulary of contracts and proofs.
-- In which places a chain may end: a bit for each place up to 45 before and after that of the first stack, since a step leads to a place
-- at most 15 off.
-- Assumes nothing.
use Rattle.std.specs.Prelude.{ℕ, zero, suc, ◌+◌, ◌-◌, ◌*◌, ◌/◌, ◌%◌, ◌≤◌, ◌<◌, ◌≡◌, Bool, true, ◌&&◌, ◌||◌, List, leb, length}
use Rattle.position.specs.Bits.{has}
use Rattle.position.specs.Layout.{byte}
use Rattle.chains.specs.Chain.{Ways, Stands, rests, leads}
use Rattle.plot.specs.Plot.{places}

abbrev pub span : ℕ
span = 45

-- how many bytes have these bits
abbrev pub room : ℕ
room = 12

-- the bit of mark j of a byte; what is no mark has one that no byte has
abbrev pub bit_of : ℕ → ℕ
bit_of zero = 1
bit_of (suc zero) = 2
bit_of (suc (suc zero)) = 4
bit_of (suc (suc (suc zero))) = 8
bit_of (suc (suc (suc (suc zero)))) = 16
bit_of (suc (suc (suc (suc (suc zero))))) = 32
bit_of (suc (suc (suc (suc (suc (suc zero)))))) = 64
bit_of (suc (suc (suc (suc (suc (suc (suc zero))))))) = 128
bit_of (suc (suc (suc (suc (suc (suc (suc (suc j)))))))) = 256

-- mark k is set
unfoldable pub mark_in : List ℕ → ℕ → Bool
mark_in l k = has (bit_of (k % 8)) (byte l (k / 8))

-- mark k is set now, and the others are as they were
pub record MarkSet (k : ℕ) (l m : List ℕ) : Type 0 where
  pub long : length m ≡ length l
  pub there : mark_in m k ≡ true
  pub others : (j : ℕ) → (j ≡ k → ⊥) → mark_in m j ≡ mark_in l j

-- place y is one that a chain from place x may come to by so many steps: it has a bit
pub record Close (x y steps : ℕ) : Type 0 where
  pub below : y < places
  pub after : x ≤ y + 15 * steps
  pub before : y ≤ x + 15 * steps

-- a chain from place x ends in place y, by its mark
unfoldable pub marked : List ℕ → ℕ → ℕ → Bool
marked l x y = mark_in l (span + y - x)

-- places are marked where t says so, and no mark goes
pub record Marks (x : ℕ) (t : ℕ → Bool) (l m : List ℕ) : Type 0 where
  pub long : length m ≡ length l
  pub each : (y : ℕ) → Close x y 3 → marked m x y ≡ (t y || marked l x y)

-- place y is vacant, not of the chain, and beside place h
unfoldable pub rests_beside : Ways → Stands → List ℕ → ℕ → ℕ → Bool
rests_beside next s used h y = leads next h y && rests s used y

-- place y is marked, where it has a bit
unfoldable pub end_marked : List ℕ → ℕ → ℕ → Bool
end_marked l x y = leb x (y + span) && (leb y (x + span) && marked l x y)

-- no place is marked
pub record Blank (l : List ℕ) : Type 0 where
  pub long : length l ≡ room
  pub each : (j : ℕ) → byte l j ≡ 0
