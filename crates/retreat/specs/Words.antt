-- When a group is destroyed and which orders are accepted, in the document's words.
-- Assumes nothing.
use Rattle.std.specs.Prelude.{ℕ, ◌≤◌, ◌<◌, ◌≡◌, true, List, [], ◌∷◌, ◌↔◌, ◌⊎◌, get_or, length}
use Rattle.position.specs.Stage as Stage
use Rattle.position.specs.Kind.{supply_kind}
use Rattle.position.specs.Board.{Board, board, force_of, nowhere}
use Rattle.position.specs.Crowd.{owes_at, routes}
use Rattle.acceptance.specs.Accepted.{Accepted}
use Rattle.ruling.specs.Verdict.{Ruling, after_check, outcome}
use Rattle.ruling.specs.Verdict.Ruling.{refused}
use Rattle.ruling.specs.Answers.{AnswersDestroyed, AnswersRetreated}
use Rattle.field.specs.Listed.{Charted}
use Rattle.routes.specs.Words.{Worded}
use Rattle.chains.specs.Series.{LegalSeries, SeriesExists}
use Rattle.shoves.specs.Group.{group_force}
use Rattle.retreat.specs.Retreat.{end_of, retreat_rule}

-- a retreat that passes every question but that of its route and pushes: an accepted position in stage 1, a hex of the map where a unit
-- owes, a route of 0..3 and pushes of 0..9 hexes of the map
pub record Due (p : List ℕ) (h : ℕ) (route pushes : List ℕ) : Type 0 where
  pub whole : Accepted p
  pub stage : (board p).desk.battle.stage ≡ Stage.retreats
  pub there : h < (board p).map.hexes
  pub unit : ℕ
  pub counted : unit < (board p).units.count
  pub owes : owes_at (board p) h unit ≡ true
  pub short : length route ≤ 3
  pub few : length pushes ≤ 9
  pub charted : Charted (board p) route
  pub pushed : Charted (board p) pushes

-- "only supply units owe"
abbrev pub OnlySupply : Board → ℕ → Type 0
OnlySupply b h = (u : ℕ) → u < b.units.count → owes_at b h u ≡ true → b.units.counter.kind u ≡ supply_kind

-- a route is legal for the group in hex h: "n steps over unblocked sides, into vacant unprohibited land or coast outside Enemy zones, ending
-- at distance n", which is the fewest steps over map hexes; and a vacant route exists
abbrev pub LegalFor : Board → ℕ → List ℕ → Type 0
LegalFor b h route = Worded b (group_force b h) h b.desk.battle.owed route

abbrev pub VacantRoute : Board → ℕ → Type 0
VacantRoute b h = (route : List ℕ) × LegalFor b h route

-- route and pushes are legal together, and "such a series of pushes exists"
abbrev pub LegalWith : Board → ℕ → List ℕ → List ℕ → Type 0
LegalWith b h route pushes = LegalSeries b (group_force b h) h b.desk.battle.owed route pushes

abbrev pub Pushed : Board → ℕ → Type 0
Pushed b h = SeriesExists b (group_force b h) h b.desk.battle.owed

-- "neither a vacant route nor such a series of pushes exists"
abbrev pub Neither : Board → ℕ → Type 0
Neither b h = (VacantRoute b h → ⊥) × (Pushed b h → ⊥)

-- what a retreat is answered, and the board that it leaves
abbrev pub answer_to : List ℕ → ℕ → List ℕ → List ℕ → Ruling
answer_to p h route pushes = (outcome p [] (after_check p (retreat_rule (board p) h route pushes))).answer

abbrev pub board_after : List ℕ → ℕ → List ℕ → List ℕ → Board
board_after p h route pushes = board (outcome p [] (after_check p (retreat_rule (board p) h route pushes))).position

-- "Its role 1 units go together": all that owe in a hex are of the group's force. Proved, like the rest but for RoadRight,
-- in proofs/Words.antt.
abbrev pub GroupRight : Type 0
GroupRight =
    (p : List ℕ) (h u : ℕ) → Accepted p → u < (board p).units.count → owes_at (board p) h u ≡ true
    → force_of (board p) u ≡ group_force (board p) h

-- who is lost: "neither a vacant route nor such a series of pushes exists", or "only supply units owe"
abbrev pub Trapped : Board → ℕ → Type 0
Trapped b h = Neither b h ⊎ OnlySupply b h

-- "the longest run of steps that each keep a legal route's rules": so many steps that end at that distance, and no others are more
pub record LongestRoad (b : Board) (f start : ℕ) (route : List ℕ) : Type 0 where
  pub steps : Worded b f start (length route) route
  pub most : (other : List ℕ) → Worded b f start (length other) other → length other ≤ length route

-- "the part route .. must be as long as the longest run .., and is empty where only supply units owe"
pub record PartFor (b : Board) (h : ℕ) (route : List ℕ) : Type 0 where
  pub others : (OnlySupply b h → ⊥) → LongestRoad b (group_force b h) h route
  pub supply : OnlySupply b h → route ≡ []

-- a group is destroyed exactly if it is trapped and was sent its part route and no pushes
abbrev pub DestroyedRight : Type 0
DestroyedRight =
    (p : List ℕ) (h : ℕ) (route pushes : List ℕ) → Due p h route pushes
    → AnswersDestroyed (answer_to p h route pushes) ↔ Trapped (board p) h × PartFor (board p) h route × (pushes ≡ [])

-- and one that is trapped is refused by 14 exactly if it was sent anything else
abbrev pub TrappedRight : Type 0
TrappedRight =
    (p : List ℕ) (h : ℕ) (route pushes : List ℕ) → Due p h route pushes → Trapped (board p) h
    → (answer_to p h route pushes ≡ refused 14 0) ↔ (PartFor (board p) h route × (pushes ≡ []) → ⊥)

-- "The route written is start and part route": when a group is destroyed its road, the next on the desk, is the start and a part route,
-- 65535 behind it. It is there as long as the battle goes on; where it is over all routes are cleared. Proved in proofs/Road.antt.
pub record Road (p : List ℕ) (h : ℕ) (route : List ℕ) (after : Board) : Type 0 where
  pub longest : PartFor (board p) h route
  pub written : (j : ℕ) → j ≤ 3 → after.desk.route (routes (board p)) j ≡ get_or (h ∷ route) j nowhere

abbrev pub RoadRight : Type 0
RoadRight =
    (p : List ℕ) (h : ℕ) (route pushes : List ℕ) → Due p h route pushes → AnswersDestroyed (answer_to p h route pushes)
    → ((board_after p h route pushes).desk.battle.stage ≡ Stage.quiet → ⊥) → Road p h route (board_after p h route pushes)

-- if a vacant route exists, the group retreats to the route's end exactly if the route sent is one and no pushes were sent, and is refused
-- by 14 exactly if not
pub record ByRoute (p : List ℕ) (h : ℕ) (route pushes : List ℕ) : Type 0 where
  pub retreats :
      AnswersRetreated (answer_to p h route pushes) (end_of (board p) route) ↔ LegalFor (board p) h route × (pushes ≡ [])
  pub refuses : (answer_to p h route pushes ≡ refused 14 0) ↔ (LegalFor (board p) h route × (pushes ≡ []) → ⊥)

abbrev pub RetreatedRight : Type 0
RetreatedRight =
    (p : List ℕ) (h : ℕ) (route pushes : List ℕ) → Due p h route pushes → VacantRoute (board p) h → (OnlySupply (board p) h → ⊥)
    → ByRoute p h route pushes

-- if only pushes serve, it retreats exactly if route and pushes are legal together, and is refused by 17 exactly if not
pub record ByPushes (p : List ℕ) (h : ℕ) (route pushes : List ℕ) : Type 0 where
  pub retreats :
      AnswersRetreated (answer_to p h route pushes) (end_of (board p) route) ↔ LegalWith (board p) h route pushes
  pub refuses : (answer_to p h route pushes ≡ refused 17 0) ↔ (LegalWith (board p) h route pushes → ⊥)

abbrev pub PushedRight : Type 0
PushedRight =
    (p : List ℕ) (h : ℕ) (route pushes : List ℕ) → Due p h route pushes → (VacantRoute (board p) h → ⊥) → Pushed (board p) h
    → (OnlySupply (board p) h → ⊥) → ByPushes p h route pushes
