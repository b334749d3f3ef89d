-- Never stuck: in every accepted position that is not the end of the game a call is accepted, and calls so chosen come to the end.
-- Proved in proofs/Onward.antt.
-- Assumes nothing.
use Rattle.std.specs.Prelude.{ℕ, ◌+◌, ◌≤◌, ◌<◌, ◌≡◌, Bool, true, false, cond, ◌&&◌, List, [], ◌∷◌, get_or, length, replicate, take, eqb, Option, Some, None}
use Rattle.position.specs.Role as Role
use Rattle.position.specs.Stage as Stage
use Rattle.position.specs.Board.{Board, board}
use Rattle.position.specs.Crowd.{holders}
use Rattle.position.specs.Tally.{any}
use Rattle.acceptance.specs.Accepted.{Accepted}
use Rattle.ruling.specs.Answers.{IsAccepted}
use Rattle.ruling.specs.Secret.{Sent}
use Rattle.field.specs.Listed.{sieve}
use Rattle.routes.specs.Search.{first_route}
use Rattle.routes.specs.Part.{farthest}
use Rattle.clock.specs.Clock.{is_last, phases_left}
use Rattle.aftermath.specs.Losses.{owes}
use Rattle.chains.specs.Find.{Sought, series_for}
use Rattle.shoves.specs.Group.{group_force}
use Rattle.retreat.specs.Retreat.{doomed, has_route, walks_from}
use Rattle.rules.specs.Order.{Order, step}
use Rattle.rules.specs.Order.Order.{end_phase, retreat, losses, close}

-- "16 | last phase of the last turn": the game is over, the end of its phase is refused
unfoldable pub over : Board → Bool
over b = eqb b.desk.battle.stage Stage.quiet && is_last b.desk.clock b.desk.last_turn

-- "Role 1 owes": all that owe, in counter order
unfoldable pub all_owing : Board → List ℕ
all_owing b = sieve (owes b) b.units.count

-- the hex of the first of them
unfoldable pub first_owing : Board → ℕ
first_owing b = b.units.state.hex (get_or (all_owing b) 0 0)

-- "a route of 0..3": the n hexes of a route that was found
unfoldable pub sent_route : ℕ → Option (ℕ × ℕ × ℕ) → List ℕ
sent_route n (Some (x, y, z)) = take n (x ∷ y ∷ z ∷ [])
sent_route n None = []

-- a series of pushes for the group of hex h
unfoldable pub pushed_for : Board → ℕ → Sought
pushed_for b h = series_for b (group_force b h) h b.desk.battle.owed

-- the first run of as many steps as the group of hex h makes: a vacant route, or else "as long as the longest such run"
unfoldable pub run_for : Board → ℕ → List ℕ
run_for b h =
    let k = farthest b (group_force b h) h b.desk.battle.owed in sent_route k (first_route b (group_force b h) h k)

-- "empty where only supply units owe"
unfoldable pub last_road : Board → ℕ → List ℕ
last_road b h = cond (any (walks_from b h) b.units.count) (run_for b h) []

-- the group is sent its part route where it is destroyed; else a vacant route, or a series of pushes
unfoldable pub route_for : Board → ℕ → List ℕ
route_for b h =
    cond (doomed b h) (last_road b h)
    (cond (has_route b h) (run_for b h) (pushed_for b h).route)

unfoldable pub pushes_for : Board → ℕ → List ℕ
pushes_for b h = cond (doomed b h) [] (cond (has_route b h) [] (pushed_for b h).pushes)

-- the order that a retreat is sent: the first group goes
unfoldable pub retreat_onward : Board → Order
retreat_onward b = retreat (first_owing b) (route_for b (first_owing b)) (pushes_for b (first_owing b))

-- "wrong stage (move, attack, end phase 0; retreat 1; losses 2; advance, close 3)": an order for each stage, and losses that name all
unfoldable pub onward : Board → Order
onward b =
    cond (eqb b.desk.battle.stage Stage.quiet) end_phase
    (cond (eqb b.desk.battle.stage Stage.retreats) (retreat_onward b) (cond (eqb b.desk.battle.stage Stage.losses) (losses (all_owing b)) close))

-- "end phase borrow a scratch of exactly width x height bytes"; the other orders borrow nothing
unfoldable pub lent_onward : Board → List ℕ
lent_onward b = cond (eqb b.desk.battle.stage Stage.quiet) (replicate b.map.hexes 0) []

unfoldable pub onward_call : List ℕ → Sent Order
onward_call p = record { order = onward (board p); lent = lent_onward (board p) }

-- "Stages: 0 quiet, 1 retreats, 2 losses, 3 advances": the calls that a battle may still take
unfoldable pub battle_left : Board → ℕ
battle_left b =
    cond (eqb b.desk.battle.stage Stage.quiet) 0
    (cond (eqb b.desk.battle.stage Stage.retreats) (2 + holders b Role.owes) (cond (eqb b.desk.battle.stage Stage.losses) 2 1))

-- the phases that come after this one
abbrev pub phases_of : Board → ℕ
phases_of b = phases_left b.desk.last_turn b.desk.clock

unfoldable pub left : Board → ℕ
left b = phases_of b + battle_left b

-- unless the game is over, the order is accepted
abbrev pub OnwardAccepted : Type 0
OnwardAccepted = (p : List ℕ) → Accepted p → over (board p) ≡ false → IsAccepted (step p (onward_call p)).answer

-- and less is left
abbrev pub Falls : Type 0
Falls = (p : List ℕ) → Accepted p → over (board p) ≡ false → left (board (step p (onward_call p)).position) < left (board p)

-- a run of calls, each accepted in the position that the one before it left
abbrev pub AllAccepted : List ℕ → List (Sent Order) → Type 0
AllAccepted p [] = Unit {0}
AllAccepted p (c ∷ cs) = IsAccepted (step p c).answer × AllAccepted (step p c).position cs

-- and the position after all
abbrev pub after_all : List ℕ → List (Sent Order) → List ℕ
after_all p [] = p
after_all p (c ∷ cs) = after_all (step p c).position cs

-- every accepted position can be played to the end of the game, by no more calls than are left
abbrev pub PlayedOut : Type 0
PlayedOut =
    (p : List ℕ) → Accepted p
    → (cs : List (Sent Order)) × (length cs ≤ left (board p)) × AllAccepted p cs × (over (board (after_all p cs)) ≡ true)

abbrev pub NeverStuck : Type 0
NeverStuck = OnwardAccepted × Falls × PlayedOut
