-- Beside what is certain: vocabulary of contracts and proofs.
-- The table in which stacks are counted: half a byte for each hex of a block, 4 x force + how many units of it stand there so far.
-- Assumes nothing.
use Rattle.std.specs.Prelude.{ℕ, ◌+◌, ◌-◌, ◌*◌, ◌/◌, ◌%◌, ◌<◌, ◌≡◌, Bool, true, false, cond, List, length, get_or, eqb, ltb}
use Rattle.position.specs.Tally.{tally}
use Rattle.position.specs.Board.{Board, force_of}
use Rattle.acceptance.specs.Asked.{StacksIn}

-- how many hexes a block has, and how many bytes its table
abbrev pub block : ℕ
block = 512

abbrev pub table : ℕ
table = 256

-- what table s says of hex k of the block: hexes k and k + 256 share a byte
unfoldable pub seat_of : List ℕ → ℕ → ℕ
seat_of s k = cond (ltb k table) (get_or s k 0 % 16) (get_or s (k - table) 0 / 16)

-- a table that counts nobody
pub record Empty (s : List ℕ) : Type 0 where
  pub long : length s ≡ table
  pub zero : (k : ℕ) → get_or s k 0 ≡ 0

-- what a unit of force f adds to a seat that says x: it is the first, one more of its force, among another force, or the fourth
pub data AddsTo (x f d : ℕ) : Type 0 where
  first : x ≡ 0 → d ≡ 1 + 4 * f → AddsTo x f d
  more : (x ≡ 0 → ⊥) → x / 4 ≡ f → (x % 4 ≡ 3 → ⊥) → d ≡ 1 → AddsTo x f d
  strange : (x ≡ 0 → ⊥) → (x / 4 ≡ f → ⊥) → d ≡ 0 → AddsTo x f d
  full : x % 4 ≡ 3 → d ≡ 0 → AddsTo x f d

-- x counts the units below n that stand on hex h, which are of one force; it is 0 where nobody does
pub record Seat (b : Board) (n h x : ℕ) : Type 0 where
  pub small : x < 16
  pub many : x % 4 ≡ tally (λ u. eqb (b.units.state.hex u) h) n
  pub none : x % 4 ≡ 0 → x ≡ 0
  pub one : (u : ℕ) → u < n → b.units.state.hex u ≡ h → force_of b u ≡ x / 4

-- table s counts the units below n on the block of hexes that begins at `base`
pub record Seated (b : Board) (base n : ℕ) (s : List ℕ) : Type 0 where
  pub long : length s ≡ table
  pub seat : (k : ℕ) → k < block → Seat b n (base + k) (seat_of s k)

-- unit u is counted, and table t has it
pub record Counts (b : Board) (base u : ℕ) (s t : List ℕ) : Type 0 where
  pub on : Seated b base u s → Seated b base (u + 1) t

-- unit u has no room, or no place among another force
pub record Crowded (b : Board) (base u : ℕ) (s : List ℕ) : Type 0 where
  pub under : Seated b base u s → StacksIn b base (base + block) → ⊥

-- the answer of counting one unit more
abbrev pub SeatedOf : Board → ℕ → ℕ → List ℕ → List ℕ → Bool → Type 0
SeatedOf b base u s t true = Counts b base u s t
SeatedOf b base u s t false = Crowded b base u s
