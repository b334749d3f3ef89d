-- What losses, an advance and a close answer has room in a number.
-- Assumes nothing.
use Prim.Native.Nat.{ℕ}
use mathlib.Core.Path.{refl}
use mathlib.Core.Bool.{not}
use mathlib.Core.List.{List, []}
use native.Mathlib.Omega.{arith}
use lib.Dec.{leb, eqb}
use Rattle.position.specs.Kind.{moves_by_land}
use Rattle.position.specs.Board.{Board}
use Rattle.position.specs.Crowd.{others}
use Rattle.position.specs.Stage as Stage
use Rattle.ruling.specs.Packed.Replies.{plainly}
use Rattle.ruling.proofs.Bounded.{Bounded, bounded_at, bounded_each, bounded_past, bounded_ruled}
use Rattle.field.specs.Listed.{and_then, list_length, named}
use Rattle.field.proofs.Bounds.{there_bounded}
use Rattle.field.proofs.Lists.{list_in}
use Rattle.aftermath.specs.Losses.{loss, loss_checks, losses, losses_rule, owes, short}
use Rattle.aftermath.specs.Advance.{advance_checks, advance_rule, close_rule, may_advance, no_route, unit_checks}

module _ {p l : List ℕ} (b : Board) where
  pub losses_bounded : (units : List ℕ) → Bounded plainly p l (losses_rule b units)
  unfolding losses_rule loss_checks losses loss
  losses_bounded units =
      bounded_past (not (list_length units)) refl
      (λ e.
      let few = (list_in units e).high in
      there_bounded b units _ (omega (arith, few))
      (bounded_past (not (eqb b.desk.battle.stage Stage.losses)) refl
      (λ _.
      bounded_each (λ _. Unit {0}) and_then
      (λ s x k v i f. bounded_at (not (owes b x)) refl i (λ _. bounded_at (named s x) refl i (λ _. f tt)))
      []
      units
      1
      _
      (omega (arith, few))
      (λ _ _. bounded_past (short b units) refl (λ _. bounded_ruled refl)))))

  pub advance_bounded : (u hex : ℕ) → Bounded plainly p l (advance_rule b u hex)
  unfolding advance_rule advance_checks unit_checks
  advance_bounded u hex =
      bounded_past (leb b.units.count u) refl
      (λ _.
      bounded_past (leb b.map.hexes hex) refl
      (λ _.
      bounded_past (not (eqb b.desk.battle.stage Stage.advances)) refl
      (λ _.
      bounded_past (not (may_advance b u)) refl
      (λ _.
      bounded_past (not (moves_by_land (b.units.counter.kind u))) refl
      (λ _.
      bounded_past (no_route b u hex) refl (λ _. bounded_past (leb 3 (others b u hex)) refl (λ _. bounded_ruled refl)))))))

  pub close_bounded : Bounded plainly p l (close_rule b)
  unfolding close_rule
  close_bounded = bounded_past (not (eqb b.desk.battle.stage Stage.advances)) refl (λ _. bounded_ruled refl)
