-- The move: its refusals in their order, and what it changes.
-- Assumes nothing.
use Rattle.std.specs.Prelude.{ℕ, ◌+◌, Bool, not, ◌&&◌, ◌||◌, List, [], ◌∷◌, length, leb, ltb, eqb}
use Rattle.clock.specs.Phase as Phase
use Rattle.position.specs.Stage as Stage
use Rattle.position.specs.Bits.{has, with, supplied, moved}
use Rattle.position.specs.Kind.{moves_by_land, moves_in_phase2}
use Rattle.position.specs.Board.{Board, force_of}
use Rattle.position.specs.Ground.{joined, standable}
use Rattle.position.specs.Crowd.{others}
use Rattle.position.specs.Change.{Change}
use Rattle.position.specs.Change.Change.{placed, marked}
use Rattle.ruling.specs.Values.{accepting}
use Rattle.ruling.specs.Verdict.{Verdict, along}
use Rattle.ruling.specs.Verdict.Judge.{rule}
use Rattle.ruling.specs.Verdict.Verdict.{refuse_if, judge}
use Rattle.field.specs.Scene.{scene}
use Rattle.field.specs.Zone.{holds_enemy, holds_neutral, enemy_zone}
use Rattle.field.specs.Working.{working}
use Rattle.field.specs.Phasing.{not_phasing}
use Rattle.field.specs.Listed.{on_map_all}
use Rattle.march.specs.Step.{step_cost}

-- "path 1..30"
unfoldable pub path_length : List ℕ → Bool
path_length path = leb 1 (length path) && leb (length path) 30

-- "wrong stage (move .. 0) or phase (move 0 or 2)"
unfoldable pub may_move_now : Board → Bool
may_move_now b = eqb b.desk.battle.stage Stage.quiet && (eqb b.desk.clock.phase Phase.land || eqb b.desk.clock.phase Phase.mechanised)

-- whether the type moves in the phase: "may move by land (all but 5)", "moves in phase 2 (0, 1)"
unfoldable pub moves_in : ℕ → ℕ → Bool
moves_in phase kind = moves_by_land kind && (not (eqb phase Phase.mechanised) || moves_in_phase2 kind)

-- "type or mark forbids it: moved for a move"
unfoldable pub forbidden : Board → ℕ → Bool
forbidden b u = not (moves_in b.desk.clock.phase (b.units.counter.kind u)) || has moved (b.units.state.marks u)

-- where a move has come to: the hex, and what it has spent
pub record Leg : Type 0 where
  pub at : ℕ
  pub spent : ℕ

abbrev pub leg : ℕ → ℕ → Leg
leg h spent = record { at = h; spent = spent }

unfoldable pub after_step : Board → Leg → ℕ → Leg
after_step b l x = leg x (l.spent + step_cost b l.at x)

unfoldable pub allowed : Board → ℕ → ℕ
allowed b u = working b u (has supplied (b.units.state.marks u)) (b.units.counter.allowance u)

-- "Only the last hex may be in an Enemy zone; a zone at the start is free": a step after the first may not leave one
unfoldable pub leaves_zone : Board → ℕ → Leg → ℕ → Bool
leaves_zone b u l k = ltb 1 k && enemy_zone (scene b) (force_of b u) l.at

-- "step not adjacent, blocked, prohibited, sea or lake"
unfoldable pub no_step : Board → ℕ → ℕ → Bool
no_step b h x = not (joined b.map h x && standable b x)

-- the questions of the step to hex x, at place k: "each step 9, 7, 8, 10", and "18, a neutral force there, after 8"
unfoldable pub step : Board → ℕ → Leg → ℕ → ℕ → Verdict → Verdict
step b u l x k rest =
    refuse_if (leaves_zone b u l k) 9 k
    (refuse_if (no_step b l.at x) 7 k
    (refuse_if (holds_enemy (scene b) (force_of b u) x) 8 k
    (refuse_if (holds_neutral (scene b) (force_of b u) x) 18 k
    (refuse_if (ltb (allowed b u) (after_step b l x).spent) 10 k rest))))

-- the questions of every step
unfoldable pub steps : Board → ℕ → List ℕ → (Leg → Verdict) → Verdict
steps b u path rest = along (step b u) (after_step b) (leg (b.units.state.hex u) 0) path 1 rest

-- all the questions of a move but 11, and what follows where the path ends: "move 4, 5, each step 9, 7, 8, 10"
unfoldable pub move_checks : Board → ℕ → List ℕ → (Leg → Verdict) → Verdict
move_checks b u path rest =
    refuse_if (not (path_length path)) 3 0
    (refuse_if (leb b.units.count u) 3 0
    (on_map_all b path
    (refuse_if (not (may_move_now b)) 2 0
    (refuse_if (not_phasing b u) 4 0
    (refuse_if (forbidden b u) 5 0 (steps b u path rest))))))

-- "Sets moved": the unit's hex and its moved mark, nothing else
unfoldable pub move_changes : Board → ℕ → ℕ → List Change
move_changes b u h = placed u h ∷ marked u (with moved (b.units.state.marks u)) ∷ []

-- "three others already there", "for a move's 11 the last place"; then the move is made
unfoldable pub arrival : Board → ℕ → ℕ → ℕ → Verdict
arrival b u last h = refuse_if (leb 3 (others b u h)) 11 last (judge (rule accepting (move_changes b u h) []))

unfoldable pub move_rule : Board → ℕ → List ℕ → Verdict
move_rule b u path = move_checks b u path (λ l. arrival b u (length path) l.at)
