-- `retreat` meets its promise: the questions of the group, and then what its fate says.
-- Assumes nothing.
use mathlib.Core.Path.{◌≡◌, subst, sym, ◌∙◌}
use native.Mathlib.Omega.{arith}
use Rattle.std.proofs.Common.{ℕ, List}
use Rattle.position.specs.Board.{Board, board}
use Rattle.std.specs.Prelude.{Result, Ok}
use Rattle.ruling.specs.declared.refusal.Refusal.{Refusal}
use Rattle.ruling.specs.Judged.{Passes, TestedOf}
use Rattle.retreat.specs.declared.Fate.{Fate}
use Rattle.retreat.specs.Fate.{fate_of}
use Rattle.retreat.specs.Retreat.{RetreatNow, group_checks}
use Rattle.retreat.proofs.Fates.{FateSays, fate_says}
use Rattle.retreat.proofs.Groups.{owed_of, small_hex}
use Rattle.retreat.proofs.Rulings.{ends_doomed, ends_going, stops_group, stops_pushes, stops_route}
use Rattle.retreating.proofs.retreat.Goals as goal

-- the questions of the group are passed
asked :
    (p : List ℕ) (h : ℕ) (route pushes : List ℕ) (r : Result (Unit {0}) Refusal) {u : Unit {0}} → TestedOf p (group_checks (board p) h route pushes) (RetreatNow (board p) h) r
    → r ≡ Ok u → Passes p (group_checks (board p) h route pushes) × RetreatNow (board p) h
asked p h route pushes r t e = subst (TestedOf p (group_checks (board p) h route pushes) (RetreatNow (board p) h)) e t

-- what the group's fate says
said :
    (b : Board) (h : ℕ) (route pushes : List ℕ) (r f : Fate) → r ≡ fate_of b h route pushes → r ≡ f → FateSays b h route pushes f
said b h route pushes r f d e = subst (FateSays b h route pushes) (sym d ∙ e) (fate_says b h route pushes)

pub judge_group-requires : goal.judge_group-requires
judge_group-requires c = c.requires.0

pub returns-in-Err : goal.returns-in-Err
returns-in-Err c = stops_group _ _ _ (subst (TestedOf _ _ _) c.in-Err.is c.judge_group.ensures)

pub decide-requires : goal.decide-requires
decide-requires c =
    let s = c.requires in
    let g = (asked _ _ _ _ _ c.judge_group.ensures c.in_default.is).1 in
    let o = owed_of s.1 g in
    (s.0, omega (arith, g.there, s.0.view.hexes), o.low, o.high)

pub fall-requires : goal.fall-requires
fall-requires c = (c.requires.0, small_hex c.requires.0 (asked _ _ _ _ _ c.judge_group.ensures c.in_default.is).1)

pub go_off-requires : goal.go_off-requires
go_off-requires c =
    let s = c.requires in
    let g = (asked _ _ _ _ _ c.judge_group.ensures c.in_default.is).1 in
    (s.0, small_hex s.0 g, (owed_of s.1 g).low)

pub push_off-requires : goal.push_off-requires
push_off-requires c =
    let s = c.requires in
    let g = (asked _ _ _ _ _ c.judge_group.ensures c.in_default.is).1 in
    (s.0, small_hex s.0 g, (owed_of s.1 g).low)

pub returns-in-Lost : goal.returns-in-Lost
returns-in-Lost c =
    ends_doomed _ _ _ (asked _ _ _ _ _ c.judge_group.ensures c.in_default.is).0 (said _ _ _ _ _ _ c.decide.ensures c.in-Lost.is) c.fall.ensures

pub returns-in-WrongRoute : goal.returns-in-WrongRoute
returns-in-WrongRoute c = stops_route _ _ _ (asked _ _ _ _ _ c.judge_group.ensures c.in_default.is).0 (said _ _ _ _ _ _ c.decide.ensures c.in-WrongRoute.is)

pub returns-in-WrongPushes : goal.returns-in-WrongPushes
returns-in-WrongPushes c =
    let f = said _ _ _ _ _ _ c.decide.ensures c.in-WrongPushes.is in
    stops_pushes _ _ _ (asked _ _ _ _ _ c.judge_group.ensures c.in_default.is).0 f.0 f.1 f.2

pub returns-in-Walking : goal.returns-in-Walking
returns-in-Walking c =
    let g = c.go_off.ensures in
    ends_going _ _ _ (asked _ _ _ _ _ c.judge_group.ensures c.in_default.is).0 (said _ _ _ _ _ _ c.decide.ensures c.in-Walking.is) g.0 g.1

pub returns-in-Pushing : goal.returns-in-Pushing
returns-in-Pushing c =
    let g = c.push_off.ensures in
    ends_going _ _ _ (asked _ _ _ _ _ c.judge_group.ensures c.in_default.is).0 (said _ _ _ _ _ _ c.decide.ensures c.in-Pushing.is) g.0 g.1
