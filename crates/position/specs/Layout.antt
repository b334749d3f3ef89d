-- Where each number of a position stands, and how one is written. No other file of specs/ knows a number of the format.
-- "Five entries of offset and length (two little-endian 16-bit numbers each), then the bodies in this order, without gap or tail."
-- Assumes nothing.
use Rattle.std.specs.Prelude.{ℕ, zero, suc, ◌+◌, ◌*◌, ◌/◌, ◌%◌, ◌≤◌, ◌≡◌, List, [], ◌∷◌, ◌++◌, cond, get_or, set, ltb, eqb}
use Rattle.position.specs.declared.View.{View}

-- the number that stands for no hex: a destroyed unit's, and an empty place of a route
abbrev pub nowhere : ℕ
nowhere = 65535

-- byte i, 0 past the end; and the 16-bit number at i, little-endian
abbrev pub byte : List ℕ → ℕ → ℕ
byte p i = get_or p i 0

unfoldable pub word : List ℕ → ℕ → ℕ
word p i = byte p i + 256 * byte p (i + 1)

-- the bodies, by their place in the contents
abbrev pub chart_body : ℕ
chart_body = 0

abbrev pub results_body : ℕ
results_body = 1

abbrev pub map_body : ℕ
map_body = 2

abbrev pub units_body : ℕ
units_body = 3

abbrev pub desk_body : ℕ
desk_body = 4

-- how long an entry is, and where that of body k has its length, behind its offset
abbrev pub entry_size : ℕ
entry_size = 4

abbrev pub extent_at : ℕ → ℕ
extent_at k = entry_size * k + 2

-- the entry of body k: its offset and its length
unfoldable pub offset : List ℕ → ℕ → ℕ
offset p k = word p (entry_size * k)

unfoldable pub extent : List ℕ → ℕ → ℕ
extent p k = word p (extent_at k)

-- the chart's records, those of the terrains before those of the two river sides; how long one is, and its fields
abbrev pub terrains : ℕ
terrains = 16

abbrev pub river : ℕ
river = 16

abbrev pub major_river : ℕ
major_river = 17

abbrev pub chart_rows : ℕ
chart_rows = 18

abbrev pub terrain_size : ℕ
terrain_size = 2

abbrev pub cost_field : ℕ
cost_field = 0

abbrev pub multiple_field : ℕ
multiple_field = 1

-- what stands before the columns of the results; how long a column is, and its fields: the code for a die stands so far behind codes_field;
-- and the faces of a die
abbrev pub results_head : ℕ
results_head = 1

abbrev pub column_size : ℕ
column_size = 8

abbrev pub attack_field : ℕ
attack_field = 0

abbrev pub defence_field : ℕ
defence_field = 1

abbrev pub codes_field : ℕ
codes_field = 1

abbrev pub die_faces : ℕ
die_faces = 6

-- what stands before the hexes of the map, and its fields; how long a hex is, and its fields
abbrev pub map_head : ℕ
map_head = 2

abbrev pub width_field : ℕ
width_field = 0

abbrev pub height_field : ℕ
height_field = 1

abbrev pub hex_size : ℕ
hex_size = 5

abbrev pub terrain_field : ℕ
terrain_field = 0

abbrev pub surface_field : ℕ
surface_field = 1

abbrev pub flags_field : ℕ
flags_field = 2

abbrev pub country_field : ℕ
country_field = 3

abbrev pub sides_field : ℕ
sides_field = 4

-- what stands before the units; how long a unit is, how many there may be, and its fields
abbrev pub units_head : ℕ
units_head = 2

abbrev pub unit_size : ℕ
unit_size = 8

abbrev pub units_most : ℕ
units_most = 400

abbrev pub nationality_field : ℕ
nationality_field = 0

abbrev pub kind_field : ℕ
kind_field = 1

abbrev pub hex_field : ℕ
hex_field = 2

abbrev pub strength_field : ℕ
strength_field = 4

abbrev pub allowance_field : ℕ
allowance_field = 5

abbrev pub marks_field : ℕ
marks_field = 6

abbrev pub role_field : ℕ
role_field = 7

-- the fields of the desk; how many routes there are, how many hexes are in one, and how long a route and a number of it are
abbrev pub turn_field : ℕ
turn_field = 0

abbrev pub last_turn_field : ℕ
last_turn_field = 1

abbrev pub force_field : ℕ
force_field = 2

abbrev pub phase_field : ℕ
phase_field = 3

abbrev pub stage_field : ℕ
stage_field = 4

abbrev pub owed_field : ℕ
owed_field = 5

abbrev pub need_field : ℕ
need_field = 6

abbrev pub routes_field : ℕ
routes_field = 8

abbrev pub route_count : ℕ
route_count = 6

abbrev pub route_hexes : ℕ
route_hexes = 4

abbrev pub place_size : ℕ
place_size = 2

abbrev pub route_size : ℕ
route_size = 8

-- where the routes end; and where the desk names the players, behind all else, one for each force
abbrev pub routes_end : ℕ
routes_end = 56

abbrev pub players_field : ℕ
players_field = 56

abbrev pub forces : ℕ
forces = 4

-- where the bodies begin, and how long each is, by the counts that they hold: chart, results, map, units, desk
abbrev pub chart_at : ℕ
chart_at = 20

abbrev pub chart_length : ℕ
chart_length = 36

abbrev pub results_at : ℕ
results_at = 56

unfoldable pub columns : List ℕ → ℕ
columns p = byte p results_at

abbrev pub results_length : List ℕ → ℕ
results_length p = results_head + column_size * columns p

unfoldable pub map_at : List ℕ → ℕ
map_at p = results_at + results_head + column_size * columns p

unfoldable pub width : List ℕ → ℕ
width p = byte p (map_at p + width_field)

unfoldable pub height : List ℕ → ℕ
height p = byte p (map_at p + height_field)

unfoldable pub hexes : List ℕ → ℕ
hexes p = width p * height p

abbrev pub map_length : List ℕ → ℕ
map_length p = map_head + hex_size * hexes p

unfoldable pub units_at : List ℕ → ℕ
units_at p = map_at p + map_head + hex_size * hexes p

unfoldable pub count : List ℕ → ℕ
count p = word p (units_at p)

abbrev pub units_length : List ℕ → ℕ
units_length p = units_head + unit_size * count p

unfoldable pub desk_at : List ℕ → ℕ
desk_at p = units_at p + units_head + unit_size * count p

-- how many players the desk names: one for each force, or none, as its length in the contents says
unfoldable pub players_named : List ℕ → ℕ
players_named p = cond (eqb (extent p desk_body) (players_field + forces)) forces 0

abbrev pub desk_length : List ℕ → ℕ
desk_length p = players_field + players_named p

-- byte f of record k, in a table of n records of `size` bytes that begins at `start`; 0 past its last record
unfoldable pub cell : List ℕ → ℕ → ℕ → ℕ → ℕ → ℕ → ℕ
cell p start size n k f = cond (ltb k n) (byte p (start + size * k + f)) 0

-- "Chart, 36 bytes: 16 terrains of cost .. and defence multiple ..; then the same pair for river and major river"
abbrev pub chart_byte : List ℕ → ℕ → ℕ → ℕ
chart_byte p t f = cell p chart_at terrain_size chart_rows t f

abbrev pub cost : List ℕ → ℕ → ℕ
cost p t = chart_byte p t cost_field

abbrev pub multiple : List ℕ → ℕ → ℕ
multiple p t = chart_byte p t multiple_field

-- "Results: column count ..; per column a, d .., then six results for die 1..6"; columns are counted from 0 here
unfoldable pub column_byte : List ℕ → ℕ → ℕ → ℕ
column_byte p c f = cell p (results_at + results_head) column_size (columns p) c f

abbrev pub attack_odds : List ℕ → ℕ → ℕ
attack_odds p c = column_byte p c attack_field

abbrev pub defence_odds : List ℕ → ℕ → ℕ
defence_odds p c = column_byte p c defence_field

-- the code for a die of 1..6, 0 for any other
unfoldable pub code : List ℕ → ℕ → ℕ → ℕ
code p c die = cond (ltb 0 die) (cond (ltb die (suc die_faces)) (column_byte p c (codes_field + die)) 0) 0

-- "Map: width, height; per hex terrain .., surface .., flags .., country .., sides .."
unfoldable pub hex_byte : List ℕ → ℕ → ℕ → ℕ
hex_byte p h f = cell p (map_at p + map_head) hex_size (hexes p) h f

abbrev pub terrain : List ℕ → ℕ → ℕ
terrain p h = hex_byte p h terrain_field

abbrev pub surface : List ℕ → ℕ → ℕ
surface p h = hex_byte p h surface_field

abbrev pub flags : List ℕ → ℕ → ℕ
flags p h = hex_byte p h flags_field

abbrev pub country : List ℕ → ℕ → ℕ
country p h = hex_byte p h country_field

abbrev pub sides : List ℕ → ℕ → ℕ
sides p h = hex_byte p h sides_field

-- "Units: 16-bit count ..; per unit nationality, type, 16-bit hex .., strength .., allowance .., marks .., role"
unfoldable pub unit_at : List ℕ → ℕ → ℕ
unit_at p u = units_at p + units_head + unit_size * u

unfoldable pub unit_byte : List ℕ → ℕ → ℕ → ℕ
unit_byte p u f = cell p (units_at p + units_head) unit_size (count p) u f

abbrev pub nationality : List ℕ → ℕ → ℕ
nationality p u = unit_byte p u nationality_field

abbrev pub kind : List ℕ → ℕ → ℕ
kind p u = unit_byte p u kind_field

-- nowhere also for a unit that is not there
unfoldable pub hex : List ℕ → ℕ → ℕ
hex p u = cond (ltb u (count p)) (unit_byte p u hex_field + 256 * unit_byte p u (hex_field + 1)) nowhere

abbrev pub strength : List ℕ → ℕ → ℕ
strength p u = unit_byte p u strength_field

abbrev pub allowance : List ℕ → ℕ → ℕ
allowance p u = unit_byte p u allowance_field

abbrev pub marks : List ℕ → ℕ → ℕ
marks p u = unit_byte p u marks_field

abbrev pub role : List ℕ → ℕ → ℕ
role p u = unit_byte p u role_field

-- "Desk, 56 bytes: turn .., last turn .., force .., phase .., stage, owed retreat n, 16-bit need, then six routes of four 16-bit hexes"
unfoldable pub desk_byte : List ℕ → ℕ → ℕ
desk_byte p f = byte p (desk_at p + f)

abbrev pub turn : List ℕ → ℕ
turn p = desk_byte p turn_field

abbrev pub last_turn : List ℕ → ℕ
last_turn p = desk_byte p last_turn_field

abbrev pub phasing : List ℕ → ℕ
phasing p = desk_byte p force_field

abbrev pub phase : List ℕ → ℕ
phase p = desk_byte p phase_field

abbrev pub stage : List ℕ → ℕ
stage p = desk_byte p stage_field

abbrev pub owed : List ℕ → ℕ
owed p = desk_byte p owed_field

unfoldable pub need : List ℕ → ℕ
need p = desk_byte p need_field + 256 * desk_byte p (need_field + 1)

-- where the desk keeps number j of route r
abbrev pub route_field : ℕ → ℕ → ℕ
route_field r j = routes_field + route_size * r + place_size * j

-- nowhere also past the sixth route and the fourth number
unfoldable pub route : List ℕ → ℕ → ℕ → ℕ
route p r j = cond (ltb r route_count) (cond (ltb j route_hexes) (desk_byte p (route_field r j) + 256 * desk_byte p (route_field r j + 1)) nowhere) nowhere

-- "one byte per force naming its player, 0..3"; "Positions of the old length are read with four players"
unfoldable pub player : List ℕ → ℕ → ℕ
player p f = cond (ltb f (players_named p)) (desk_byte p (players_field + f)) f

-- the position with a longer desk, which names the players 0, 1, 2, 3
unfoldable pub with_players : List ℕ → List ℕ
with_players p = set p (extent_at desk_body) (players_field + forces) ++ (0 ∷ 1 ∷ 2 ∷ 3 ∷ [])

-- the position with another number in byte f of unit u, or of the desk; as it was where there is no such unit
unfoldable pub set_unit : List ℕ → ℕ → ℕ → ℕ → List ℕ
set_unit p u f x = cond (ltb u (count p)) (set p (unit_at p u + f) x) p

unfoldable pub set_desk : List ℕ → ℕ → ℕ → List ℕ
set_desk p f x = set p (desk_at p + f) x

unfoldable pub set_hex : List ℕ → ℕ → ℕ → List ℕ
set_hex p u h = set_unit (set_unit p u hex_field (h % 256)) u (hex_field + 1) (h / 256)

unfoldable pub set_marks : List ℕ → ℕ → ℕ → List ℕ
set_marks p u m = set_unit p u marks_field m

unfoldable pub set_role : List ℕ → ℕ → ℕ → List ℕ
set_role p u r = set_unit p u role_field r

unfoldable pub set_clock : List ℕ → ℕ → ℕ → ℕ → List ℕ
set_clock p t f ph = set_desk (set_desk (set_desk p turn_field t) force_field f) phase_field ph

unfoldable pub set_stage : List ℕ → ℕ → ℕ → ℕ → List ℕ
set_stage p s n x =
    set_desk (set_desk (set_desk (set_desk p stage_field s) owed_field n) need_field (x % 256)) (need_field + 1) (x / 256)

unfoldable pub set_route_hex : List ℕ → ℕ → ℕ → ℕ → List ℕ
set_route_hex p r j h = set_desk (set_desk p (route_field r j) (h % 256)) (route_field r j + 1) (h / 256)

unfoldable pub set_route : List ℕ → ℕ → ℕ → ℕ → ℕ → ℕ → List ℕ
set_route p r a b c d =
    cond (ltb r route_count) (set_route_hex (set_route_hex (set_route_hex (set_route_hex p r 0 a) r 1 b) r 2 c) r 3 d) p

-- the first n routes emptied
unfoldable pub clear_routes : List ℕ → ℕ → List ℕ
clear_routes p zero = p
clear_routes p (suc n) = set_route (clear_routes p n) n nowhere nowhere nowhere nowhere

-- the view v is the position's: its counts, where its units and its desk begin, and how many players it names
pub record ViewOf (p : List ℕ) (v : View) : Type 0 where
  pub width : v.width ≡ width p
  pub height : v.height ≡ height p
  pub hexes : v.hexes ≡ hexes p
  pub columns : v.columns ≡ columns p
  pub count : v.count ≡ count p
  pub units : v.units ≡ units_at p
  pub desk : v.desk ≡ desk_at p
  pub players : v.players ≡ players_named p

-- the bodies of a view lie one after the other and fill `long` bytes; no count is above its limit
pub record Fits (long : ℕ) (v : View) : Type 0 where
  pub units : v.units ≡ results_at + results_head + column_size * v.columns + map_head + hex_size * v.hexes
  pub desk : v.desk ≡ v.units + units_head + unit_size * v.count
  pub whole : long ≡ v.desk + players_field + v.players
  pub columns : v.columns ≤ 12
  pub hexes : v.hexes ≤ 4096
  pub count : v.count ≤ units_most
  pub players : v.players ≤ forces
