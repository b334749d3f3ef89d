-- Laws of steps: where one leads, and that each can be made back.
-- Assumes nothing.
use Rattle.std.specs.Prelude.{Option, Some, None}
use Prim.Native.Nat.{ℕ, ◌+◌, ◌%◌, ◌≤◌}
use mathlib.Core.Path.{◌≡◌, refl, ◌∙◌}
use native.Mathlib.Omega.{arith}
use Rattle.grid.specs.Map.{neighbour_of}
use Rattle.grid.proofs.Laws.{opposite, direction}
use Rattle.position.specs.Board.{Map}
use Rattle.position.specs.Ground.{beside, next}
use Rattle.position.proofs.Sides.{next_beside, side_symmetric, unblocked, next_over, next_dir}

pub at_at : {r : Option ℕ} {a b : ℕ} → r ≡ Some a → r ≡ Some b → a ≡ b
at_at p q = cc

no_hex : (r : Option ℕ) → ((b : ℕ) → r ≡ Some b → ⊥) → r ≡ None
no_hex (Some b) f = absurd (f b refl)
no_hex None f = refl

-- every step can be made back, in the opposite direction, and `home` leads where `next` does, and from where a walk began nowhere
pub record TwoWay (next home : ℕ → ℕ → Option ℕ) : Type 0 where
  pub six : (a d : ℕ) → 6 ≤ d → next a d ≡ None
  pub turn : (a d b : ℕ) → next a d ≡ Some b → next b ((d + 3) % 6) ≡ Some a
  pub over : (a d b : ℕ) → next a d ≡ Some b → home a d ≡ Some b
  pub edge : (a : ℕ) → home a 6 ≡ None

-- what is no direction leads nowhere
pub beyond : (w h a d : ℕ) → 6 ≤ d → neighbour_of w h a d ≡ None
beyond w h a d p = no_hex _ (λ b e. absurd (omega (arith, direction w h a d b e)))

-- the ground's steps are such
module _ (m : Map) where
  pub next_six : (a d : ℕ) → 6 ≤ d → next m a d ≡ None
  next_six a d p = no_hex _ (λ b e. absurd (omega (arith, next_dir m a d b e)))

  next_back : (a d b : ℕ) → next m a d ≡ Some b → next m b ((d + 3) % 6) ≡ Some a
  next_back a d b e =
      let o = next_over m a d b e in
      next_beside m b ((d + 3) % 6) (λ p. unblocked m a d b e (side_symmetric m a d b o ∙ p)) ∙ opposite m.width m.height a d b o

  pub two_way : TwoWay (next m) (beside m)
  two_way =
      record {
        six = next_six;
        turn = next_back;
        over = next_over m;
        edge = λ a. beyond m.width m.height a 6 (omega arith);
      }
