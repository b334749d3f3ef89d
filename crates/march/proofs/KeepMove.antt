-- An accepted position stays accepted after a move.
-- Assumes nothing.
use Prim.Native.Nat.{ℕ, ◌<◌}
use mathlib.Core.Path.{◌≡◌, sym, ◌∙◌}
use mathlib.Core.Bool.{true, false, not, ◌&&◌, ◌||◌}
use mathlib.Core.List.{List}
use native.Mathlib.Omega.{arith}
use lib.ListN.{length}
use lib.Dec.{leb, ltb, eqb}
use borrow.Author.Tests.{leb-false, eqb-true, eqb-false, not-false}
use Rattle.position.specs.Bits.{with, moved}
use Rattle.position.specs.Board.{Board, board, nowhere, force_of}
use Rattle.position.specs.Ground.{joined, standable}
use Rattle.position.specs.Crowd.{others}
use Rattle.acceptance.specs.Accepted.{Lawful, Accepted}
use Rattle.position.specs.Effect.{changes}
use Rattle.position.specs.Stage as Stage
use Rattle.position.proofs.BitLaws.{with_within}
use Rattle.position.proofs.BitLaws.UnitMark.{is_moved}
use Rattle.position.proofs.Shapes.{hexes_most}
use Rattle.position.proofs.Tallies.{same_or, both_yes, neither}
use Rattle.ruling.specs.Verdict.{Verdict}
use Rattle.field.specs.Scene.{scene}
use Rattle.field.specs.Phasing.{not_phasing}
use Rattle.field.specs.Listed.{off_map, on_map_all}
use Rattle.field.specs.Zone.{holds_enemy, holds_neutral}
use Rattle.field.proofs.Zones.{all_own}
use Rattle.march.specs.Move.{
  path_length,
  may_move_now,
  forbidden,
  Leg,
  leg,
  after_step,
  allowed,
  leaves_zone,
  no_step,
  step,
  steps,
  move_checks,
  move_changes,
  arrival,
  move_rule,
}
use Rattle.acceptance.proofs.Lawfuls.{Room, standable_on, lawful_placed, placed_hex, lawful_marked}
use Rattle.ruling.proofs.Kept.{Kept, kept_past, kept_along, kept_ruled}
use Rattle.clock.specs.Phase as Phase

-- where a move has come to: a hex to stand on, with none but units of unit u's force
record Fair (b : Board) (u h : ℕ) : Type 0 where
  stands : standable b h ≡ true
  own : (w : ℕ) → w < b.units.count → b.units.state.hex w ≡ h → force_of b w ≡ force_of b u

module _ (b : Board) where
  -- a hex that the step's questions let through
  step_stands : (h x : ℕ) → no_step b h x ≡ false → standable b x ≡ true
  unfolding no_step
  step_stands h x e = (both_yes (joined b.map h x) (standable b x) (not-false (joined b.map h x && standable b x) e)).1

  -- a board and a unit that the questions before let through
  quiet : not (may_move_now b) ≡ false → b.desk.battle.stage ≡ Stage.quiet
  unfolding may_move_now
  quiet e =
      let t = eqb b.desk.clock.phase Phase.land || eqb b.desk.clock.phase Phase.mechanised in
      let m = not-false (eqb b.desk.battle.stage Stage.quiet && t) e in
      eqb-true b.desk.battle.stage Stage.quiet (both_yes (eqb b.desk.battle.stage Stage.quiet) t m).0

  mapped : (u : ℕ) → not_phasing b u ≡ false → b.units.state.hex u ≡ nowhere → ⊥
  unfolding not_phasing
  mapped u e =
      eqb-false (b.units.state.hex u) nowhere
      (neither (eqb (b.units.state.hex u) nowhere) (not (eqb (force_of b u) b.desk.clock.force)) e).0

module _ {b : Board} (l : Lawful b) (u : ℕ) (n : u < b.units.count) where
  -- where the unit stands before the first step
  fair_start : (b.units.state.hex u ≡ nowhere → ⊥) → Fair b u (b.units.state.hex u)
  fair_start m =
      record {
        stands = ((l.units.each u n).stand.mapped m).stands;
        own =
            λ w k e.
            same_or (force_of b w) (force_of b u) (λ z. z)
            (λ z. absurd (((l.units.pairs u n w k).two (λ f. z (sym f))).apart m e));
      }

  lawful_move : (h : ℕ) → Room b u h → b.desk.battle.stage ≡ Stage.quiet → Lawful (changes b (move_changes b u h))
  unfolding changes move_changes
  lawful_move h r z =
      lawful_marked (lawful_placed l u h n r (λ e. absurd (omega arith))) u (with moved (b.units.state.marks u))
      (record {
        marks = with_within is_moved (b.units.state.marks u) (l.units.each u n).counter.marks;
        destroyed = λ e. absurd (r.hex (sym (placed_hex u h n r) ∙ e));
      })

module _ {p l : List ℕ} (a : Accepted p) (u : ℕ) where
  kept_arrival : (last h : ℕ) → u < (board p).units.count → (board p).desk.battle.stage ≡ Stage.quiet → Fair (board p) u h → Kept p l (arrival (board p) u last h)
  unfolding arrival
  kept_arrival last h n z f =
      kept_past a (leb 3 (others (board p) u h))
      (λ e.
      kept_ruled a (move_changes (board p) u h)
      (lawful_move a.lawful u n h
      (record {
        hex = λ q. omega (arith, standable_on (board p) h f.stands, hexes_most a.shaped);
        stands = f.stands;
        few = omega (arith, leb-false 3 (others (board p) u h) e);
        own = λ w k _. f.own w k;
      })
      z))

  kept_step :
      (s : Leg) (x k : ℕ) (v : Verdict) → Fair (board p) u s.at → (Fair (board p) u (after_step (board p) s x).at → Kept p l v)
      → Kept p l (step (board p) u s x k v)
  unfolding step after_step
  kept_step s x k v _ f =
      let b = board p in
      kept_past a (leaves_zone b u s k)
      (λ _.
      kept_past a (no_step b s.at x)
      (λ e.
      kept_past a (holds_enemy (scene b) (force_of b u) x)
      (λ g.
      kept_past a (holds_neutral (scene b) (force_of b u) x)
      (λ n.
      kept_past a (ltb (allowed b u) (after_step b s x).spent)
      (λ _. f (record { stands = step_stands b s.at x e; own = all_own b u x g n }))))))

  pub move_keeps : (path : List ℕ) → Kept p l (move_rule (board p) u path)
  unfolding move_rule move_checks on_map_all off_map steps
  move_keeps path =
      let b = board p in
      kept_past a (not (path_length path))
      (λ _.
      kept_past a (leb b.units.count u)
      (λ c.
      let n = leb-false b.units.count u c in
      kept_along a (λ _. Unit {0}) (λ s x k v _ f. kept_past a (leb b.map.hexes x) (λ _. f tt)) 0 tt path 1 _
      (λ _ _.
      kept_past a (not (may_move_now b))
      (λ z.
      kept_past a (not_phasing b u)
      (λ m.
      kept_past a (forbidden b u)
      (λ _.
      kept_along a (λ (s : Leg). Fair b u s.at) kept_step (leg (b.units.state.hex u) 0)
      (fair_start a.lawful u n (mapped b u m))
      path
      1
      _
      (λ s f. kept_arrival (length path) s.at n (quiet b z) f)))))))
