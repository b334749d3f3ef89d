-- What a move and the end of a phase answer has room in a number.
-- Assumes nothing.
use Prim.Native.Nat.{ℕ, ◌≤◌, ◌<◌}
use mathlib.Core.Path.{◌≡◌, refl}
use mathlib.Core.Bool.{false, not, ◌&&◌}
use mathlib.Core.List.{List}
use native.Mathlib.Omega.{arith}
use lib.ListN.{length}
use lib.Dec.{leb, ltb, eqb}
use borrow.Author.Tests.{leb-true, not-false}
use Rattle.position.specs.Board.{Board, force_of}
use Rattle.position.specs.Crowd.{others}
use Rattle.position.specs.Stage as Stage
use Rattle.position.proofs.Tallies.{both_yes}
use Rattle.ruling.specs.Verdict.{Verdict}
use Rattle.ruling.specs.Packed.Replies.{plainly}
use Rattle.ruling.proofs.Bounded.{Bounded, bounded_at, bounded_each, bounded_past, bounded_ruled}
use Rattle.field.specs.Scene.{scene}
use Rattle.field.specs.Zone.{holds_enemy, holds_neutral}
use Rattle.field.specs.Phasing.{not_phasing}
use Rattle.field.proofs.Bounds.{map_bounded}
use Rattle.clock.specs.Clock.{is_last}
use Rattle.march.specs.Move.{
  Leg,
  after_step,
  allowed,
  arrival,
  forbidden,
  leaves_zone,
  leg,
  may_move_now,
  move_checks,
  move_rule,
  no_step,
  path_length,
  step,
  steps,
}
use Rattle.march.specs.EndPhase.{end_rule}

path_few : (path : List ℕ) → not (path_length path) ≡ false → length path ≤ 30
unfolding path_length
path_few path e =
    let n = length path in leb-true n 30 (both_yes (leb 1 n) (leb n 30) (not-false (leb 1 n && leb n 30) e)).1

module _ {p l : List ℕ} (b : Board) where
  step_bounded :
      (u : ℕ) (s : Leg) (x k : ℕ) (v : Verdict) → k < 65536 → (Unit {0} → Bounded plainly p l v)
      → Bounded plainly p l (step b u s x k v)
  unfolding step
  step_bounded u s x k v i f =
      bounded_at (leaves_zone b u s k) refl i
      (λ _.
      bounded_at (no_step b s.at x) refl i
      (λ _.
      bounded_at (holds_enemy (scene b) (force_of b u) x) refl i
      (λ _.
      bounded_at (holds_neutral (scene b) (force_of b u) x) refl i
      (λ _. bounded_at (ltb (allowed b u) (after_step b s x).spent) refl i (λ _. f tt)))))

  pub move_bounded : (u : ℕ) (path : List ℕ) → Bounded plainly p l (move_rule b u path)
  unfolding move_rule move_checks steps arrival
  move_bounded u path =
      bounded_past (not (path_length path)) refl
      (λ e.
      let few = path_few path e in
      bounded_past (leb b.units.count u) refl
      (λ _.
      map_bounded b path _ (omega (arith, few))
      (λ _.
      bounded_past (not (may_move_now b)) refl
      (λ _.
      bounded_past (not_phasing b u) refl
      (λ _.
      bounded_past (forbidden b u) refl
      (λ _.
      bounded_each (λ _. Unit {0}) (after_step b) (step_bounded u) (leg (b.units.state.hex u) 0) path 1 _ (omega (arith, few))
      (λ _ s. bounded_at (leb 3 (others b u s.at)) refl (omega (arith, few)) (λ _. bounded_ruled refl))))))))

  pub end_bounded : (long : ℕ) → Bounded plainly p l (end_rule b long)
  unfolding end_rule
  end_bounded long =
      bounded_past (not (eqb long b.map.hexes)) refl
      (λ _.
      bounded_past (not (eqb b.desk.battle.stage Stage.quiet)) refl
      (λ _. bounded_past (is_last b.desk.clock b.desk.last_turn) refl (λ _. bounded_ruled refl)))
