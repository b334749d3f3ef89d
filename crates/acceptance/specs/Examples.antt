-- Beside what is certain: examples.
-- `broken` tried on the roster's position and on positions that break one line each.
-- Assumes nothing.
use Rattle.std.specs.Prelude.{ℕ, ◌≡◌, refl, List, [], ◌∷◌, ◌++◌, map, true, false, replicate}
use Rattle.std.proofs.Math.Decide.{dec_le, dec_lt, ℕ_discrete}
use Rattle.grid.specs.Rulings.{grid_open}
use Rattle.position.specs.Tally.{tally, any}
use Rattle.position.specs.Bits.{has}
use Rattle.position.specs.Kind.{always_tried, force, may_belong, may_allow}
use Rattle.position.specs.Layout.{word, offset, extent, columns, map_at, width, height, hexes, units_at, count, desk_at, cell, column_byte, code, hex_byte, unit_at, unit_byte, hex, desk_byte, need, route, players_named, player}
use Rattle.position.specs.Board.{force_of}
use Rattle.position.specs.Ground.{stored, stored_at, side, next, is_at, joined, standable}
use Rattle.position.specs.Parts.{
  Parts,
  Field,
  building,
  plain,
  infantry,
  but,
  but_desk,
  seated,
  built,
  misplaced,
  mismeasured,
  terrain_cost,
  terrain_multiple,
  column_a,
  column_code,
  hex_terrain,
  hex_surface,
  hex_flags,
  hex_country,
  hex_sides,
  unit_nationality,
  unit_kind,
  unit_hex,
  unit_strength,
  unit_allowance,
  unit_marks,
  unit_role,
  desk_turn,
  desk_last_turn,
  desk_force,
  desk_phase,
  desk_stage,
  desk_owed,
  desk_need,
  route_hex,
}
use Rattle.position.specs.Crowd.{crowd, holders, owes_at, owing_hexes, filled, routes}
use Rattle.setting.specs.Decide.{iff, both, given, never, last, below, holds?, off?, answers_no}
use Rattle.setting.specs.Decided.{in?, terrain?, column?, rising?, results?, edge?, hex?, map?}
use Rattle.acceptance.specs.Broken.{
  entry?,
  shaped?,
  mapped?,
  destroyed?,
  role?,
  counter?,
  duty?,
  stand?,
  unit?,
  twoForces?,
  oneForce?,
  pair?,
  units?,
  clock?,
  player?,
  quiet?,
  retreats?,
  losses?,
  advances?,
  during?,
  stage?,
  link?,
  place?,
  route?,
  lawful?,
  accepted?,
  broken,
}

-- 'unfolding computing' opens what acceptance computes by
unfoldable pub computing : ℕ
unfolding building dec_le dec_lt ℕ_discrete grid_open tally any has always_tried force may_belong may_allow word offset extent columns map_at width height hexes units_at count desk_at cell column_byte code hex_byte unit_at unit_byte hex desk_byte need route players_named player force_of stored stored_at side next is_at joined standable crowd holders owes_at owing_hexes filled routes iff both given never last below holds? off? answers_no in? entry? shaped? terrain? column? rising? results? edge? hex? map? mapped? destroyed? role? counter? duty? stand? unit? twoForces? oneForce? pair? units? clock? player? quiet? retreats? losses? advances? during? stage? link? place? route? lawful? accepted? broken
computing = 0

-- document 01's roster: "Map 3 x 1, plain, terrain cost 1; hex 0 US supply; US infantry 0 on 2, E.S.C. infantry 1 on 1"
abbrev pub roster_parts : Parts
roster_parts = but (but (but (plain 3 1 (infantry 3 2 ∷ infantry 1 1 ∷ [])) hex_flags 0 4) hex_country 0 1) unit_strength 1 4

-- "With unit 1 destroyed"
abbrev pub less_parts : Parts
less_parts = but roster_parts unit_hex 1 65535

abbrev pub roster : List ℕ
roster = built roster_parts

abbrev pub roster_less : List ℕ
roster_less = built less_parts

-- S.A.U. infantry 0 landed on hex 0, which is coastal, and E.S.C. infantry 1 on hex 1
abbrev pub landed_parts : Parts
landed_parts = but (but (but roster_parts unit_nationality 0 0) unit_hex 0 0) hex_surface 0 1

-- the two-player game: one player for forces 0 to 2
abbrev pub two_players : Parts → Parts
two_players p = seated p 1 1 1 0

-- as Enemies, and in the two-player game as neutrals
abbrev pub landed : List ℕ
landed = built landed_parts

abbrev pub landed_together : List ℕ
landed_together = built (two_players landed_parts)

-- unit 0 tried and with a role, in a stage with an owed retreat and a need
abbrev pub in_stage : Parts → ℕ → ℕ → ℕ → ℕ → Parts
in_stage p stage owed need role =
    but (but (but_desk (but_desk (but_desk p desk_stage stage) desk_owed owed) desk_need need) unit_marks 0 1) unit_role 0 role

-- the same, in the combat phase
abbrev pub during : Parts → ℕ → ℕ → ℕ → ℕ → Parts
during p stage owed need role = but_desk (in_stage p stage owed need role) desk_phase 1

-- as the document has it, on a desk that says the same, and in the two-player game
pub whole :
    map broken (roster ∷ roster_less ∷ built (seated roster_parts 0 1 2 3) ∷ built (two_players roster_parts) ∷ landed_together ∷ [])
    ≡ replicate 5 false
unfolding computing
whole = refl

-- the roster's position with another number in a field of row k, or of the desk
abbrev set : Field → ℕ → ℕ → List ℕ
set f k x = built (but roster_parts f k x)

abbrev set_desk : Field → ℕ → List ℕ
set_desk f x = built (but_desk roster_parts f x)

-- each breaks one line, in the order of the document
abbrev broken_ones : List (List ℕ)
broken_ones =
    []  -- no position at all
    ∷ (roster ++ (0 ∷ []))  -- "without gap or tail"
    ∷ misplaced roster_parts 1 57  -- an offset that is not where its body begins
    ∷ mismeasured roster_parts 4 55  -- a length that is not its body's
    ∷ set terrain_cost 0 10  -- "cost 0..9"
    ∷ set terrain_multiple 17 0  -- "defence multiple 1..4", of the major river
    ∷ set column_a 0 21  -- "a, d (1..20 each ..)"
    ∷ set (column_code 6) 0 11  -- "Codes: 1..3 .. 10"
    ∷ set hex_terrain 0 16  -- "terrain 0..15"
    ∷ set hex_surface 0 4  -- surface 0..3
    ∷ set hex_flags 0 12  -- an unnamed flag
    ∷ set hex_country 0 3  -- country 0..2
    ∷ set hex_sides 0 1  -- "off-map sides 0"
    ∷ set hex_sides 1 64  -- an unnamed bit of sides
    ∷ set unit_nationality 0 5  -- nationality 0..4
    ∷ set unit_kind 1 3  -- "militia (force 3 only)"
    ∷ set unit_hex 0 3  -- a hex that is not on the map
    ∷ set hex_surface 2 2  -- unit 0 stands at sea
    ∷ built (but (but roster_parts terrain_cost 0 0) hex_terrain 2 1)  -- unit 1 stands on prohibited terrain
    ∷ set unit_hex 1 2  -- "at most three in a hex, of one force"
    ∷ set unit_strength 0 61  -- "strength 1..60"
    ∷ set unit_allowance 0 31  -- "allowance 0..30"
    ∷ set unit_marks 0 16  -- an unnamed mark
    ∷ built (but (but roster_parts unit_kind 1 4) unit_nationality 1 2)  -- "Types 4 and 5 are always tried."
    ∷ built (but less_parts unit_marks 1 2)  -- "Destroyed units have .. no mark but tried"
    ∷ set_desk desk_turn 0  -- "turn 1..60"
    ∷ built (but_desk (but_desk roster_parts desk_turn 3) desk_last_turn 2)  -- "last turn 1..60 not below turn"
    ∷ set_desk desk_force 4  -- "force 0..3"
    ∷ set_desk desk_phase 3  -- phase 0..2
    ∷ built (in_stage roster_parts 3 0 0 2)  -- "1 to 3 only in phase 1"
    ∷ built (but (during roster_parts 3 0 0 2) unit_marks 0 0)  -- "role 2 may advance; both are tried"
    ∷ built (in_stage roster_parts 0 0 0 1)  -- "Stage 0: no roles"
    ∷ set_desk desk_owed 1  -- "Elsewhere n and need are 0."
    ∷ set (route_hex 0) 0 0  -- "Stage 0: no .. routes."
    ∷ mismeasured roster_parts 4 60  -- a desk that is said to name players, and does not
    ∷ mismeasured (seated roster_parts 0 1 2 3) 4 56  -- one that names them, and is not said to
    ∷ (mismeasured roster_parts 4 58 ++ (0 ∷ 1 ∷ []))  -- one that names two
    ∷ built (seated roster_parts 0 4 2 3)  -- "naming its player, 0..3"
    ∷ built (seated roster_parts 0 1 2 2)  -- "force 3 never shares a player"
    ∷ []

pub each : map broken broken_ones ≡ replicate 39 true
unfolding computing
each = refl
