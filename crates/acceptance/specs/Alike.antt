-- Two positions that no player can tell apart.
-- Assumes nothing.
use Rattle.std.specs.Prelude.{ℕ, ◌+◌, ◌<◌, ◌≡◌, List, false, length}
use Rattle.position.specs.Bits.{has, tried}
use Rattle.position.specs.Layout.{byte, count, unit_at, marks, strength_field}
use Rattle.acceptance.specs.Accepted.{Accepted}

-- byte i is the strength of a unit that is face down
pub record Hidden (p : List ℕ) (i : ℕ) : Type 0 where
  pub unit : ℕ
  pub counted : unit < count p
  pub down : has tried (marks p unit) ≡ false
  pub there : i ≡ unit_at p unit + strength_field

-- equal in every byte but the strengths of units that are face down
pub record Same (p q : List ℕ) : Type 0 where
  pub long : length q ≡ length p
  pub bytes : (i : ℕ) → (Hidden p i → ⊥) → byte q i ≡ byte p i

-- both accepted, equal in every byte but the strengths of units that are face down
pub record Alike (p q : List ℕ) : Type 0 where
  pub first : Accepted p
  pub second : Accepted q
  pub same : Same p q
