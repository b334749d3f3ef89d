-- Refusal 3 along a list has room in a number, with its place.
-- Assumes nothing.
use Prim.Native.Nat.{ℕ, ◌+◌, ◌≤◌, ◌<◌}
use mathlib.Core.Path.{refl}
use mathlib.Core.List.{List}
use lib.ListN.{length}
use lib.Dec.{leb}
use borrow.Author.Tests.{leb-false}
use Rattle.position.specs.Board.{Board}
use Rattle.ruling.specs.Packed.{Replies}
use Rattle.ruling.specs.Secret.{Each}
use Rattle.ruling.specs.Verdict.{Verdict}
use Rattle.ruling.proofs.Bounded.{Bounded, bounded_at, bounded_each}
use Rattle.field.specs.Listed.{all_there, no_unit, off_map, on_map_all, on_map_from}

module _ {k : Replies} {p l : List ℕ} (b : Board) (xs : List ℕ) (v : Verdict) where
  -- hexes of the map, their places counted from one on
  pub from_bounded :
      (place : ℕ) → place + length xs ≤ 65536 → (Each (λ x. x < b.map.hexes) xs → Bounded k p l v)
      → Bounded k p l (on_map_from b xs place v)
  unfolding on_map_from off_map
  from_bounded place i f =
      bounded_each (λ x. x < b.map.hexes) (λ s x. s)
      (λ s x at w j g. bounded_at (leb b.map.hexes x) refl j (λ e. g (leb-false b.map.hexes x e)))
      0
      xs
      place
      (λ s. v)
      i
      (λ h s. f h)

  pub map_bounded :
      1 + length xs ≤ 65536 → (Each (λ x. x < b.map.hexes) xs → Bounded k p l v) → Bounded k p l (on_map_all b xs v)
  unfolding on_map_all on_map_from
  map_bounded i f = from_bounded 1 i f

  -- units
  pub there_bounded : 1 + length xs ≤ 65536 → Bounded k p l v → Bounded k p l (all_there b xs v)
  unfolding all_there no_unit
  there_bounded i f =
      bounded_each (λ _. Unit {0}) (λ s x. s) (λ s x at w j g. bounded_at (leb b.units.count x) refl j (λ _. g tt)) 0 xs 1
      (λ s. v)
      i
      (λ _ s. f)
