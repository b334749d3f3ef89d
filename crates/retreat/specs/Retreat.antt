-- Retreat: its refusals in their order, and what it changes.
-- Assumes nothing.
use Rattle.std.specs.Prelude.{ℕ, ◌+◌, ◌-◌, ◌<◌, ◌≡◌, Bool, not, cond, ◌&&◌, ◌||◌, List, [], ◌∷◌, ◌++◌, map, length, get_or, leb, ltb, eqb}
use Rattle.position.specs.Role as Role
use Rattle.position.specs.Stage as Stage
use Rattle.position.specs.Tally.{any}
use Rattle.position.specs.Kind.{supply_kind}
use Rattle.position.specs.Board.{Board, nowhere}
use Rattle.position.specs.Crowd.{owes_at, routes}
use Rattle.position.specs.Change.{Change}
use Rattle.position.specs.Change.Change.{placed, destroyed, assigned, routed}
use Rattle.position.specs.Effect.{change}
use Rattle.ruling.specs.Values.{Values, retreated_to, eliminated}
use Rattle.ruling.specs.Verdict.{Verdict}
use Rattle.ruling.specs.Verdict.Judge.{rule}
use Rattle.ruling.specs.Verdict.Verdict.{refuse_if, judge}
use Rattle.field.specs.Listed.{on_map_all, on_map_from}
use Rattle.routes.specs.Legal.{legal}
use Rattle.routes.specs.Search.{first_route, found}
use Rattle.routes.specs.Part.{part_route}
use Rattle.chains.specs.Follows.{none, legal_pushes}
use Rattle.chains.specs.Serves.{pushes_serve}
use Rattle.shoves.specs.Group.{group, group_force}
use Rattle.shoves.specs.Shoves.{marches}
use Rattle.aftermath.specs.Stage.{then_on}

-- a unit owes in hex h that is no supply unit
unfoldable pub walks_from : Board → ℕ → ℕ → Bool
walks_from b h u = owes_at b h u && not (eqb (b.units.counter.kind u) supply_kind)

-- a vacant route exists for the group in hex h
unfoldable pub has_route : Board → ℕ → Bool
has_route b h = found (first_route b (group_force b h) h b.desk.battle.owed)

-- "such a series of pushes exists"
unfoldable pub has_series : Board → ℕ → Bool
has_series b h = pushes_serve b (group_force b h) h b.desk.battle.owed

-- "The group is destroyed exactly if neither a vacant route nor such a series of pushes exists", or if "only supply units owe"
unfoldable pub doomed : Board → ℕ → Bool
doomed b h = not (any (walks_from b h) b.units.count) || not (has_route b h || has_series b h)

-- "the owner sends the part route .. It uses vacant hexes alone, and is empty where only supply units owe"
unfoldable pub is_part : Board → ℕ → List ℕ → Bool
is_part b h route = cond (any (walks_from b h) b.units.count) (part_route b (group_force b h) h route) (none route)

-- "14 also covers a part route that is too short or not legal", and pushes sent with it
unfoldable pub not_part : Board → ℕ → List ℕ → List ℕ → Bool
not_part b h route pushes = doomed b h && not (is_part b h route && none pushes)

-- "If a vacant route exists, the route must be one and the pushes empty, else 14"
unfoldable pub not_vacant : Board → ℕ → List ℕ → List ℕ → Bool
not_vacant b h route pushes =
    not (doomed b h) && (has_route b h && not (legal b (group_force b h) h b.desk.battle.owed route && none pushes))

-- "If only pushes serve, route and pushes must be legal together, else 17"
unfoldable pub not_pushed : Board → ℕ → List ℕ → List ℕ → Bool
not_pushed b h route pushes =
    not (doomed b h) && (not (has_route b h) && not (legal_pushes b (group_force b h) h b.desk.battle.owed route pushes))

-- where the route ends
unfoldable pub end_of : Board → List ℕ → ℕ
end_of b route = get_or route (b.desk.battle.owed - 1) nowhere

-- "role now 0; supply units among them are destroyed"
unfoldable pub leaves : Board → ℕ → ℕ → List Change
leaves b end u = cond (eqb (b.units.counter.kind u) supply_kind) (destroyed u ∷ []) (placed u end ∷ assigned u Role.none ∷ [])

unfoldable pub goes_off : Board → ℕ → List ℕ → List Change
goes_off b end [] = []
goes_off b end (u ∷ us) = leaves b end u ++ goes_off b end us

-- "Else start and route are written", and of a group that is destroyed "start and part route"
unfoldable pub note_of : Board → ℕ → List ℕ → Change
note_of b h route = routed (routes b) h (get_or route 0 nowhere) (get_or route 1 nowhere) (get_or route 2 nowhere)

unfoldable pub retreat_changes : Board → ℕ → List ℕ → List Change
retreat_changes b h route = note_of b h route ∷ goes_off b (end_of b route) (group b h)

-- the same with pushes: "Routes written are the group's own: start and route"
unfoldable pub push_changes : Board → ℕ → List ℕ → List ℕ → List Change
push_changes b h route pushes = note_of b h route ∷ marches (change b (note_of b h route)) h route pushes

-- "it goes as far as it can and is lost there": "The route written is start and part route"
unfoldable pub doom_changes : Board → ℕ → List ℕ → List Change
doom_changes b h route = note_of b h route ∷ map destroyed (group b h)

-- "The answer is one of: retreated with its end, destroyed, or refused"
unfoldable pub retreat_values : Board → ℕ → List ℕ → Values
retreat_values b h route = cond (doomed b h) eliminated (retreated_to (end_of b route))

-- what the questions before that of the route leave known
pub record RetreatNow (b : Board) (h : ℕ) : Type 0 where
  pub there : h < b.map.hexes
  pub now : b.desk.battle.stage ≡ Stage.retreats

-- a hex, a route of 0..3 and "pushes, a list of 0..9 hexes", places counted on through both; "wrong stage (.. retreat 1 ..)", then 4: "hex
-- lacks the role asked"
abbrev pub group_checks : Board → ℕ → List ℕ → List ℕ → Verdict → Verdict
group_checks b h route pushes rest =
    refuse_if (ltb 3 (length route)) 3 0
    (refuse_if (ltb 9 (length pushes)) 3 0
    (refuse_if (leb b.map.hexes h) 3 0
    (on_map_all b route
    (on_map_from b pushes (length route + 1)
    (refuse_if (not (eqb b.desk.battle.stage Stage.retreats)) 2 0 (refuse_if (not (any (owes_at b h) b.units.count)) 4 0 rest))))))

-- what the group does: it is destroyed, goes along a vacant route, or pushes
unfoldable pub leave_changes : Board → ℕ → List ℕ → List ℕ → List Change
leave_changes b h route pushes =
    cond (doomed b h) (doom_changes b h route) (cond (has_route b h) (retreat_changes b h route) (push_changes b h route pushes))

-- all the questions of a retreat, "retreat 4, 14", with 17 "in place of 14 where only pushes serve", and what follows. What is asked of
-- route and pushes depends on what there is for the group, so that at most one of the three applies
unfoldable pub retreat_rule : Board → ℕ → List ℕ → List ℕ → Verdict
retreat_rule b h route pushes =
    group_checks b h route pushes
    (refuse_if (not_part b h route pushes) 14 0
    (refuse_if (not_vacant b h route pushes) 14 0
    (refuse_if (not_pushed b h route pushes) 17 0
    (judge (rule (retreat_values b h route) (then_on b (leave_changes b h route pushes)) [])))))
