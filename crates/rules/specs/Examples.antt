-- Beside what is certain: examples.
-- The order onward tried on the roster's position and on one of each stage.
-- Assumes nothing.
use Rattle.std.specs.Prelude.{ℕ, ◌≡◌, refl, true, false, List, [], ◌∷◌, map, replicate}
use Rattle.position.specs.Board.{board}
use Rattle.position.specs.Parts.{but_desk, built, desk_force, desk_last_turn, desk_phase}
use Rattle.acceptance.specs.Broken.{broken}
use Rattle.acceptance.specs.Examples.{computing, roster, roster_parts, less_parts, during}
use Rattle.field.specs.Listed.{sieve}
use Rattle.routes.specs.Examples.{searching}
use Rattle.routes.specs.Part.{farthest}
use Rattle.clock.specs.Clock.{is_last, phases_left}
use Rattle.aftermath.specs.Losses.{owes}
use Rattle.chains.specs.Examples.{pushing}
use Rattle.shoves.specs.Group.{group, group_force}
use Rattle.retreat.specs.Retreat.{doomed, has_route, has_series, walks_from}
use Rattle.rules.specs.Order.Order.{close, end_phase, losses, retreat}
use Rattle.rules.specs.Onward.{
  all_owing,
  battle_left,
  first_owing,
  last_road,
  left,
  onward,
  over,
  pushes_for,
  retreat_onward,
  route_for,
  run_for,
  sent_route,
}

-- unit 0 owes a retreat of one hex
abbrev retreating : List ℕ
retreating = built (during less_parts 1 1 0 1)

-- the same with three hexes owed, of which the map has two
abbrev trapped : List ℕ
trapped = built (during less_parts 1 3 0 1)

-- it owes losses of 3
abbrev losing : List ℕ
losing = built (during roster_parts 2 0 3 1)

-- it may advance
abbrev advancing : List ℕ
advancing = built (during roster_parts 3 0 0 2)

-- turn 1 of 1, force 3, phase 2
abbrev last_phase : List ℕ
last_phase = built (but_desk (but_desk (but_desk roster_parts desk_last_turn 1) desk_force 3) desk_phase 2)

pub whole : map broken (retreating ∷ trapped ∷ losing ∷ advancing ∷ last_phase ∷ []) ≡ replicate 5 false
unfolding computing
whole = refl

-- unit 0 retreats from hex 2 to hex 1, which unit 1 has left, and is lost on hex 0 where it owes three hexes
pub orders :
    map (λ p. onward (board p)) (roster ∷ retreating ∷ trapped ∷ losing ∷ advancing ∷ [])
    ≡ end_phase ∷ retreat 2 (1 ∷ []) [] ∷ retreat 2 (1 ∷ 0 ∷ []) [] ∷ losses (0 ∷ []) ∷ close ∷ []
unfolding computing searching pushing sieve owes group group_force walks_from has_route has_series doomed all_owing first_owing sent_route farthest run_for last_road route_for pushes_for retreat_onward onward
orders = refl

pub ends : map (λ p. over (board p)) (roster ∷ retreating ∷ last_phase ∷ []) ≡ false ∷ false ∷ true ∷ []
unfolding computing is_last over
ends = refl

-- sixty turns of twelve phases, all but this one; and the calls of a battle
pub lefts : map (λ p. left (board p)) (roster ∷ retreating ∷ losing ∷ advancing ∷ last_phase ∷ []) ≡ 719 ∷ 721 ∷ 720 ∷ 719 ∷ 0 ∷ []
unfolding computing phases_left battle_left left
lefts = refl
