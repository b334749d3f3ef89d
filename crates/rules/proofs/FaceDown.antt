-- How two positions that look alike are made: an accepted one, and the same with another strength under a counter face down.
-- Assumes nothing.
use Prim.Native.Nat.{ℕ, ◌<◌}
use mathlib.Core.Path.{◌≡◌}
use mathlib.Core.Bool.{false}
use mathlib.Core.List.{List}
use native.Mathlib.Omega.{arith}
use native.Mathlib.Decide.{ℕ_discrete}
use Rattle.position.specs.Bits.{has, tried}
use Rattle.position.specs.Layout.{strength_field, count, strength, marks, set_unit}
use Rattle.position.specs.Shape.{In}
use Rattle.position.proofs.Front.{shaped_kept, count_kept}
use Rattle.position.proofs.Writes.{behind_unit, front_unit, byte_unit, unit_unit, unit_same}
use Rattle.acceptance.specs.Accepted.{StrengthsOk, Accepted}
use Rattle.acceptance.specs.Alike.{Same, Alike}
use Rattle.acceptance.proofs.Alikes.{board_alike}

module _ (p : List ℕ) (u x : ℕ) where
  -- the position with strength x under unit u
  abbrev other : List ℕ
  other = set_unit p u strength_field x

  -- every other strength is as it was
  pub strength_else : (w : ℕ) → (w ≡ u → ⊥) → strength other w ≡ strength p w
  strength_else w n = unit_unit p u strength_field x (omega arith) w strength_field (omega arith) (λ e _. n e)

  same_down : has tried (marks p u) ≡ false → Same p other
  same_down d =
      record {
        long = (behind_unit p u strength_field x).long;
        bytes = λ i n. byte_unit p u strength_field x i (λ l e. n (record { unit = u; counted = l; down = d; there = e }));
      }

  -- "strength 1..60"
  strengths_else : Accepted p → In 1 x 60 → StrengthsOk other
  strengths_else a h w l = at (ℕ_discrete w u)
    where
      m : w < count p
      m = omega (arith, count_kept (front_unit p u strength_field x))

      at : Dec (w ≡ u) → In 1 (strength other w) 60
      at (yes e) = rw e (rw (unit_same p u strength_field x (omega arith) a.shaped (omega (arith, m))) h)
      at (no n) = rw (strength_else w n) (a.strengths w m)

  pub alike_down : Accepted p → has tried (marks p u) ≡ false → In 1 x 60 → Alike p other
  alike_down a d h =
      record {
        first = a;
        second =
            record {
              shaped = shaped_kept (front_unit p u strength_field x) a.shaped;
              strengths = strengths_else a h;
              lawful = rw (board_alike (same_down d)) a.lawful;
            };
        same = same_down d;
      }
