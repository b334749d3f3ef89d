-- Beside what is certain: vocabulary of contracts and proofs.
-- What is known of an attack once its questions are passed.
-- Assumes nothing.
use Rattle.std.specs.Prelude.{ℕ, ◌≤◌, ◌<◌, ◌≡◌, false, List, length, get_or}
use Rattle.position.specs.Board.{Board}
use Rattle.field.specs.Phasing.{not_phasing}
use Rattle.field.specs.Listed.{Counted}
use Rattle.battle.specs.Attack.{not_beside}

-- unit u is of the phasing force, on the map and beside the target
pub record Faces (b : Board) (target u : ℕ) : Type 0 where
  pub phasing : not_phasing b u ≡ false
  pub beside : not_beside b target u ≡ false

abbrev pub AllFace : Board → ℕ → List ℕ → Type 0
AllFace b target units = (i : ℕ) → i < length units → Faces b target (get_or units i 0)

-- past refusal 3
pub record InRange (b : Board) (target : ℕ) (units : List ℕ) (long : ℕ) : Type 0 where
  pub some : 1 ≤ length units
  pub most : length units ≤ 18
  pub scratch : long ≡ b.map.hexes
  pub aimed : target < b.map.hexes
  pub counted : Counted b units

-- past every refusal
pub record Engaged (b : Board) (target : ℕ) (units : List ℕ) (long : ℕ) : Type 0 where
  pub range : InRange b target units long
  pub able : AllFace b target units
