-- `stepping::one_step` meets its contract: each test's answer is its function's, and the laws of a step put them in their order.
-- Assumes nothing.
use Prim.Native.Nat.{ℕ, ◌+◌, ◌<◌}
use mathlib.Core.Path.{◌≡◌, sym, ap, subst, ◌∙◌}
use mathlib.Core.Bool.{Bool, not}
use native.Mathlib.Omega.{arith}
use Rattle.position.specs.Bits.{has}
use Rattle.position.specs.Board.{Board, board, force_of}
use Rattle.position.specs.Ground.{bearing, standable}
use Rattle.position.proofs.Sides.{next_in_lem}
use Rattle.position.proofs.Ranges.{sought_at, sought_none}
use Rattle.field.specs.Scene.{scene}
use Rattle.field.specs.Zone.{holds_enemy, holds_neutral}
use Rattle.paint.specs.Paint.{Marked, enemy_mark}
use Rattle.paint.proofs.Units.{marked_zone, marked_enemy}
use Rattle.march.specs.Step.{step_cost}
use Rattle.march.specs.Move.{leg, after_step, no_step}
use Rattle.march.proofs.Steps.{turned_next, no_step_there, no_step_apart}
use Rattle.march.proofs.Judging.{stops_zone, stops_ground, stops_enemy, stops_neutral, stops_spent, passes_step}
use Rattle.stepping.proofs.one_step.Goals as goal

module _ (b : Board) where
  -- a step that has a direction leads on where a unit may stand, and nowhere else
  way : (at x : ℕ) {d : ℕ} {t s : Bool} → d ≡ bearing b.map at x → d < 6 → t ≡ standable b x → t ≡ s → no_step b at x ≡ not s
  way at x e l f g = no_step_there b at x (omega arith) ∙ ap not (sym f ∙ g)

  -- the marks of the hex are those for the unit's force: they tell of Enemies,
  marks : (u x : ℕ) {f m : ℕ} → f ≡ force_of b u → Marked (scene b) f x m → Marked (scene b) (force_of b u) x m
  marks u x {m = m} e k = subst (λ (g : ℕ). Marked (scene b) g x m) e k

  foe : (u x : ℕ) {f m : ℕ} {t : Bool} → f ≡ force_of b u → Marked (scene b) f x m → t ≡ has enemy_mark m
      → holds_enemy (scene b) (force_of b u) x ≡ t
  foe u x e k h = sym (h ∙ marked_enemy (marks u x e k))

  -- and of neutrals
  neutral : (u x : ℕ) {f : ℕ} {t : Bool} → f ≡ force_of b u → t ≡ holds_neutral (scene b) f x
      → holds_neutral (scene b) (force_of b u) x ≡ t
  neutral u x e h = sym (h ∙ ap (λ (g : ℕ). holds_neutral (scene b) g x) e)

  -- what the move has spent past the step
  total : (at spent x : ℕ) {n : ℕ} → n ≡ step_cost b at x → (after_step b (leg at spent) x).spent ≡ spent + n
  unfolding after_step
  total at spent x e = ap (λ (n : ℕ). spent + n) (sym e)

pub returns-then-leaves : goal.returns-then-leaves
returns-then-leaves c = stops_zone _ _ _ _ _ _ (sym c.requires.2 ∙ c.if-leaves.true)

pub returns-in_default : goal.returns-in_default
returns-in_default c =
    let a = c.args in
    stops_ground _ _ _ _ _ _ (sym c.requires.2 ∙ c.if-leaves.false)
    (no_step_apart (board a.p.now) a.at a.x (omega (arith, sought_none _ _ _ c.bearing.ensures c.in_default.is)))

pub returns-then-not-standable : goal.returns-then-not-standable
returns-then-not-standable c =
    let a = c.args in
    stops_ground _ _ _ _ _ _ (sym c.requires.2 ∙ c.if-leaves.false)
    (way (board a.p.now) a.at a.x (sought_at _ _ _ c.bearing.ensures c.in-Some.is).0 (sought_at _ _ _ c.bearing.ensures c.in-Some.is).1 c.standable.ensures c.if-not-standable.true)

pub look-marks-requires : goal.look-marks-requires
look-marks-requires c =
    let a = c.args in
    (c.requires.0, next_in_lem c.requires.0.view _ _ _ (turned_next (board a.p.now) a.at a.x (omega (arith, (sought_at _ _ _ c.bearing.ensures c.in-Some.is).0, (sought_at _ _ _ c.bearing.ensures c.in-Some.is).1))))

pub returns-then-has : goal.returns-then-has
returns-then-has c =
    let a = c.args in
    let b = board a.p.now in
    stops_enemy _ _ _ _ _ _ (sym c.requires.2 ∙ c.if-leaves.false)
    (way b a.at a.x (sought_at _ _ _ c.bearing.ensures c.in-Some.is).0 (sought_at _ _ _ c.bearing.ensures c.in-Some.is).1 c.standable.ensures c.if-not-standable.false)
    (foe b a.u a.x c.force_of-f.ensures c.look-marks.ensures c.has.ensures ∙ c.if-has.true)

pub returns-then-neutral_there : goal.returns-then-neutral_there
returns-then-neutral_there c =
    let a = c.args in
    let b = board a.p.now in
    stops_neutral _ _ _ _ _ _ (sym c.requires.2 ∙ c.if-leaves.false)
    (way b a.at a.x (sought_at _ _ _ c.bearing.ensures c.in-Some.is).0 (sought_at _ _ _ c.bearing.ensures c.in-Some.is).1 c.standable.ensures c.if-not-standable.false)
    (foe b a.u a.x c.force_of-f.ensures c.look-marks.ensures c.has.ensures ∙ c.if-has.false)
    (neutral b a.u a.x c.force_of-f.ensures c.neutral_there.ensures ∙ c.if-neutral_there.true)

pub returns-then-allowed-total : goal.returns-then-allowed-total
returns-then-allowed-total c =
    let a = c.args in
    let b = board a.p.now in
    stops_spent _ _ _ _ _ _
    (record {
      zone = sym c.requires.2 ∙ c.if-leaves.false;
      ground = way b a.at a.x (sought_at _ _ _ c.bearing.ensures c.in-Some.is).0 (sought_at _ _ _ c.bearing.ensures c.in-Some.is).1 c.standable.ensures c.if-not-standable.false;
      foe = foe b a.u a.x c.force_of-f.ensures c.look-marks.ensures c.has.ensures ∙ c.if-has.false;
      neutral = neutral b a.u a.x c.force_of-f.ensures c.neutral_there.ensures ∙ c.if-neutral_there.false;
    })
    (omega (arith, c.if-allowed-total.true, c.allowed.ensures.is, total b a.at a.spent a.x c.step_cost.ensures.is))

pub returns : goal.returns
returns c =
    let a = c.args in
    let b = board a.p.now in
    let e = total b a.at a.spent a.x c.step_cost.ensures.is in
    record {
      passes =
          passes_step _ _ _ _ _ _
          (record {
            zone = sym c.requires.2 ∙ c.if-leaves.false;
            ground = way b a.at a.x (sought_at _ _ _ c.bearing.ensures c.in-Some.is).0 (sought_at _ _ _ c.bearing.ensures c.in-Some.is).1 c.standable.ensures c.if-not-standable.false;
            foe = foe b a.u a.x c.force_of-f.ensures c.look-marks.ensures c.has.ensures ∙ c.if-has.false;
            neutral = neutral b a.u a.x c.force_of-f.ensures c.neutral_there.ensures ∙ c.if-neutral_there.false;
          })
          (omega (arith, c.if-allowed-total.false, c.allowed.ensures.is, e));
      is = sym e;
      small = omega (arith, c.if-allowed-total.false, c.allowed.ensures.small);
      enters = c.has-2.ensures ∙ marked_zone (marks b a.u a.x c.force_of-f.ensures c.look-marks.ensures);
    }
