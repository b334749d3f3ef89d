-- What a retreat answers has room in a number: its end is a hex of the map, or none.
-- Assumes nothing.
use Prim.Native.Nat.{ℕ, zero, suc, ◌+◌, ◌-◌, ◌≤◌, ◌<◌}
use mathlib.Core.Path.{refl}
use mathlib.Core.Bool.{not}
use mathlib.Core.List.{List, [], ◌∷◌}
use mathlib.Core.Logic.{inl, inr}
use native.Mathlib.Omega.{arith}
use lib.ListN.{get_or, length}
use lib.Dec.{leb, ltb, eqb}
use borrow.Author.Tests.{ltb-false}
use Rattle.position.specs.Tally.{any}
use Rattle.position.specs.Board.{Board, board, nowhere}
use Rattle.position.specs.Crowd.{owes_at}
use Rattle.position.specs.Stage as Stage
use Rattle.position.proofs.Shapes.{hexes_most}
use Rattle.position.proofs.Tallies.{either}
use Rattle.acceptance.specs.Accepted.{Accepted}
use Rattle.ruling.specs.Packed.{Roomy}
use Rattle.ruling.specs.Packed.Replies.{of_retreat}
use Rattle.ruling.specs.Secret.{Each}
use Rattle.ruling.proofs.Bounded.{Bounded, bounded_past, bounded_ruled}
use Rattle.field.proofs.Bounds.{from_bounded, map_bounded}
use Rattle.retreat.specs.Retreat.{doomed, end_of, not_part, not_pushed, not_vacant, retreat_rule, retreat_values}

-- a number of a list of hexes, or nowhere
hex_small : {n : ℕ} → n ≤ 65536 → (xs : List ℕ) → Each (λ x. x < n) xs → (i : ℕ) → get_or xs i nowhere < 65536
hex_small l [] h i = omega arith
hex_small l (x ∷ xs) h zero = omega (arith, h.0)
hex_small l (x ∷ xs) h (suc i) = hex_small l xs h.1 i

values_roomy :
    (b : Board) (h : ℕ) (route : List ℕ) → b.map.hexes ≤ 65536 → Each (λ x. x < b.map.hexes) route
    → Roomy of_retreat (retreat_values b h route)
unfolding retreat_values end_of
values_roomy b h route l on =
    either (doomed b h) (λ e. rw e (inl refl)) (λ e. rw e (inr (refl, hex_small l route on (b.desk.battle.owed - 1))))

pub retreat_bounded :
    {p l : List ℕ} → Accepted p → (h : ℕ) (route pushes : List ℕ) → Bounded of_retreat p l (retreat_rule (board p) h route pushes)
unfolding retreat_rule
retreat_bounded {p} a h route pushes =
    let b = board p in
    bounded_past (ltb 3 (length route)) refl
    (λ short.
    let s = ltb-false 3 (length route) short in
    bounded_past (ltb 9 (length pushes)) refl
    (λ few.
    let f = ltb-false 9 (length pushes) few in
    bounded_past (leb b.map.hexes h) refl
    (λ _.
    map_bounded b route _ (omega (arith, s))
    (λ on.
    from_bounded b pushes _ (length route + 1) (omega (arith, s, f))
    (λ _.
    bounded_past (not (eqb b.desk.battle.stage Stage.retreats)) refl
    (λ _.
    bounded_past (not (any (owes_at b h) b.units.count)) refl
    (λ _.
    bounded_past (not_part b h route pushes) refl
    (λ _.
    bounded_past (not_vacant b h route pushes) refl
    (λ _.
    bounded_past (not_pushed b h route pushes) refl
    (λ _. bounded_ruled (values_roomy b h route (omega (arith, hexes_most a.shaped)) on)))))))))))
