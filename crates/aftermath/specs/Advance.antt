-- Advance and close: their refusals in their order, and what they change.
-- Assumes nothing.
use Rattle.std.specs.Prelude.{ℕ, ◌+◌, Bool, not, ◌&&◌, ◌||◌, List, [], ◌∷◌, map, leb, eqb}
use Rattle.position.specs.Layout.{route_count, route_hexes}
use Rattle.position.specs.Role as Role
use Rattle.position.specs.Stage as Stage
use Rattle.position.specs.Tally.{any}
use Rattle.position.specs.Kind.{moves_by_land}
use Rattle.position.specs.Board.{Board, force_of}
use Rattle.position.specs.Ground.{joined}
use Rattle.position.specs.Crowd.{others}
use Rattle.position.specs.Change.{Change}
use Rattle.position.specs.Change.Change.{placed, assigned}
use Rattle.ruling.specs.Values.{accepting}
use Rattle.ruling.specs.Verdict.{Verdict}
use Rattle.ruling.specs.Verdict.Judge.{rule}
use Rattle.ruling.specs.Verdict.Verdict.{refuse_if, judge}
use Rattle.field.specs.Scene.{scene}
use Rattle.field.specs.Zone.{holds_enemy, holds_neutral}
use Rattle.field.specs.Listed.{sieve}
use Rattle.aftermath.specs.Stage.{then_on}

-- role 2 may advance
unfoldable pub may_advance : Board → ℕ → Bool
may_advance b u = eqb (b.units.state.role u) Role.advances

-- an Enemy of unit u, or a force that is neutral to its own, stands on hex h
unfoldable pub shut : Board → ℕ → ℕ → Bool
shut b u h = holds_enemy (scene b) (force_of b u) h || holds_neutral (scene b) (force_of b u) h

-- on number i of route r: "an advance over or onto one is 7"
unfoldable pub held_at : Board → ℕ → ℕ → ℕ → Bool
held_at b u r i = shut b u (b.desk.route r i)

-- number j of route r is the hex, "with no Enemy from its start to that hex", both included, and no neutral force
unfoldable pub clear_to : Board → ℕ → ℕ → ℕ → ℕ → Bool
clear_to b u hex r j = eqb (b.desk.route r j) hex && not (any (held_at b u r) (j + 1))

-- "Some route must start beside the unit over an unblocked side and contain the hex": route r serves
unfoldable pub can_follow : Board → ℕ → ℕ → ℕ → Bool
can_follow b u hex r = joined b.map (b.units.state.hex u) (b.desk.route r 0) && any (clear_to b u hex r) route_hexes

-- "no route for an advance"
unfoldable pub no_route : Board → ℕ → ℕ → Bool
no_route b u hex = not (any (can_follow b u hex) route_count)

-- "The unit then stands there, role 0."
unfoldable pub advance_changes : Board → ℕ → ℕ → List Change
advance_changes b u hex = placed u hex ∷ assigned u Role.none ∷ []

-- the questions of the unit: "advance 4, 5, 7, 11"; "4 asks the role only"; "type 5 for an advance"
unfoldable pub unit_checks : Board → ℕ → ℕ → Verdict → Verdict
unit_checks b u hex rest =
    refuse_if (not (may_advance b u)) 4 0
    (refuse_if (not (moves_by_land (b.units.counter.kind u))) 5 0
    (refuse_if (no_route b u hex) 7 0 (refuse_if (leb 3 (others b u hex)) 11 0 rest)))

-- all the questions of an advance, and what follows: "wrong stage (.. advance, close 3)"
unfoldable pub advance_checks : Board → ℕ → ℕ → Verdict → Verdict
advance_checks b u hex rest =
    refuse_if (leb b.units.count u) 3 0
    (refuse_if (leb b.map.hexes hex) 3 0
    (refuse_if (not (eqb b.desk.battle.stage Stage.advances)) 2 0 (unit_checks b u hex rest)))

unfoldable pub advance_rule : Board → ℕ → ℕ → Verdict
advance_rule b u hex = advance_checks b u hex (judge (rule accepting (then_on b (advance_changes b u hex)) []))

-- "Close ends stage 3, making all roles 0."
unfoldable pub close_changes : Board → List Change
close_changes b = map (λ u. assigned u Role.none) (sieve (may_advance b) b.units.count)

-- "wrong stage (.. close 3)"
unfoldable pub close_rule : Board → Verdict
close_rule b = refuse_if (not (eqb b.desk.battle.stage Stage.advances)) 2 0 (judge (rule accepting (then_on b (close_changes b)) []))
