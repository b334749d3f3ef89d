-- What is left by the stage, and that less is left when a stage passes on.
-- Assumes nothing.
use Prim.Native.Nat.{◌+◌, ◌≤◌, ◌<◌}
use mathlib.Core.Path.{◌≡◌, refl}
use mathlib.Core.List.{List}
use native.Mathlib.Omega.{arith}
use Rattle.position.specs.Board.{Board}
use Rattle.position.specs.Crowd.{holders}
use Rattle.position.specs.Change.{Change}
use Rattle.position.specs.Change.Change.{staged, unrouted}
use Rattle.position.specs.Effect.{change, changes}
use Rattle.position.specs.Role as Role
use Rattle.position.specs.Stage as Stage
use Rattle.acceptance.proofs.Carries.{changes_then}
use Rattle.acceptance.proofs.Since.{Since}
use Rattle.aftermath.specs.Stage.{passes_on, then_on}
use Rattle.aftermath.proofs.KeepStage.{passed_by}
use Rattle.rules.specs.Onward.{battle_left, left, phases_of}

module _ (b : Board) where
  pub left_quiet : b.desk.battle.stage ≡ Stage.quiet → battle_left b ≡ 0
  unfolding battle_left
  left_quiet e = rw e refl

  pub left_retreats : b.desk.battle.stage ≡ Stage.retreats → battle_left b ≡ 2 + holders b Role.owes
  unfolding battle_left
  left_retreats e = rw e refl

  pub left_losses : b.desk.battle.stage ≡ Stage.losses → battle_left b ≡ 2
  unfolding battle_left
  left_losses e = rw e refl

  pub left_advances : b.desk.battle.stage ≡ Stage.advances → battle_left b ≡ 1
  unfolding battle_left
  left_advances e = rw e refl

-- setting the stage leaves the clock
module _ (c : Board) where
  phases_advances : phases_of (change c (staged Stage.advances 0 0)) ≡ phases_of c
  unfolding change
  phases_advances = refl

  phases_quiet : phases_of (change (change c (staged Stage.quiet 0 0)) unrouted) ≡ phases_of c
  unfolding change
  phases_quiet = refl

  battle_advances : battle_left (change c (staged Stage.advances 0 0)) ≡ 1
  unfolding battle_left change
  battle_advances = refl

  battle_quiet : battle_left (change (change c (staged Stage.quiet 0 0)) unrouted) ≡ 0
  unfolding battle_left change
  battle_quiet = refl

-- board c since board b of a battle: what is left falls with the stage, or where somebody owes still, by itself
module _
    {b c : Board}
    (s : Since b c)
    (some : 1 ≤ battle_left b)
    (more : (holders c Role.advances ≡ 0 → ⊥) → 2 ≤ battle_left b)
    (later : (holders c Role.owes ≡ 0 → ⊥) → battle_left c < battle_left b) where
  phases_since : phases_of c ≡ phases_of b
  phases_since = rw (s.clock, s.fixed.last_turn) refl

  falls_passed : left (changes c (passes_on c)) < left b
  unfolding left
  falls_passed =
      passed_by (λ d. phases_of d + battle_left d < phases_of b + battle_left b) c
      (λ _ _. omega (arith, phases_since, phases_quiet c, battle_quiet c))
      (λ _ n. omega (arith, more n, phases_since, phases_advances c, battle_advances c))
      (λ n. omega (arith, later n, phases_since))

-- a call's own changes, and then the stage that follows
pub falls_then_on :
    {b : Board} (xs : List Change) → Since b (changes b xs) → 1 ≤ battle_left b
    → ((holders (changes b xs) Role.advances ≡ 0 → ⊥) → 2 ≤ battle_left b)
    → ((holders (changes b xs) Role.owes ≡ 0 → ⊥) → battle_left (changes b xs) < battle_left b) → left (changes b (then_on b xs)) < left b
unfolding then_on
falls_then_on {b} xs s some more later =
    rw (changes_then xs (passes_on (changes b xs)) b) (falls_passed s some more later)
