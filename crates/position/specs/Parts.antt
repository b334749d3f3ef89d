-- Beside what is certain: examples.
-- A position made from its parts, so that an example says by name what it changes. A part is a list of rows (the terrains, the columns, the
-- hexes, the units ..), and a row a list of numbers, in the order of the format. What the format gains has its name and its plain value here.
-- Assumes nothing.
use Rattle.std.specs.Prelude.{ℕ, zero, suc, ◌+◌, ◌*◌, ◌/◌, ◌%◌, List, [], ◌∷◌, ◌++◌, length, get_or, replicate}
use Rattle.position.specs.Layout.{nowhere, entry_size, chart_rows, route_count, route_hexes}

-- a number of one byte, or of two, "little-endian"
pub data Number : Type 0 where
  one : ℕ → Number
  two : ℕ → Number

abbrev pub Row : Type 0
Row = List Number

abbrev pub Parts : Type 0
Parts = List (List Row)

-- the parts, in their order
abbrev chart : ℕ
chart = 0

abbrev results : ℕ
results = 1

abbrev size : ℕ
size = 2

abbrev hexes : ℕ
hexes = 3

abbrev units : ℕ
units = 4

abbrev desk : ℕ
desk = 5

abbrev routes : ℕ
routes = 6

abbrev players : ℕ
players = 7

-- which number of the rows of a part
pub record Field : Type 0 where
  pub part : ℕ
  pub place : ℕ

abbrev field : ℕ → ℕ → Field
field part place = record { part = part; place = place }

-- "terrains of cost .. and defence multiple ..; then the same pair for river and major river"
abbrev pub terrain_cost : Field
terrain_cost = field chart 0

abbrev pub terrain_multiple : Field
terrain_multiple = field chart 1

abbrev pub plain_terrain : Row
plain_terrain = one 1 ∷ one 1 ∷ []

-- "per column a, d .., then six results for die 1..6"
abbrev pub column_a : Field
column_a = field results 0

abbrev pub column_code : ℕ → Field
column_code die = field results (1 + die)

-- 1:1, with D1, D2, D3, A1, Ae, Dx
abbrev pub even_odds : Row
even_odds = one 1 ∷ one 1 ∷ one 1 ∷ one 2 ∷ one 3 ∷ one 4 ∷ one 7 ∷ one 9 ∷ []

-- "Map: width, height"
abbrev pub plain_size : ℕ → ℕ → Row
plain_size w h = one w ∷ one h ∷ []

-- "per hex terrain .., surface .., flags .., country .., sides .."
abbrev pub hex_terrain : Field
hex_terrain = field hexes 0

abbrev pub hex_surface : Field
hex_surface = field hexes 1

abbrev pub hex_flags : Field
hex_flags = field hexes 2

abbrev pub hex_country : Field
hex_country = field hexes 3

abbrev pub hex_sides : Field
hex_sides = field hexes 4

abbrev pub plain_hex : Row
plain_hex = one 0 ∷ one 0 ∷ one 0 ∷ one 0 ∷ one 0 ∷ []

-- "per unit nationality, type, 16-bit hex .., strength .., allowance .., marks .., role"
abbrev pub unit_nationality : Field
unit_nationality = field units 0

abbrev pub unit_kind : Field
unit_kind = field units 1

abbrev pub unit_hex : Field
unit_hex = field units 2

abbrev pub unit_strength : Field
unit_strength = field units 3

abbrev pub unit_allowance : Field
unit_allowance = field units 4

abbrev pub unit_marks : Field
unit_marks = field units 5

abbrev pub unit_role : Field
unit_role = field units 6

-- infantry of nationality n on hex h, of strength 5 and allowance 6
abbrev pub infantry : ℕ → ℕ → Row
infantry n h = one n ∷ one 2 ∷ two h ∷ one 5 ∷ one 6 ∷ one 0 ∷ one 0 ∷ []

-- "turn .., last turn .., force .., phase .., stage, owed retreat n, 16-bit need"
abbrev pub desk_turn : Field
desk_turn = field desk 0

abbrev pub desk_last_turn : Field
desk_last_turn = field desk 1

abbrev pub desk_force : Field
desk_force = field desk 2

abbrev pub desk_phase : Field
desk_phase = field desk 3

abbrev pub desk_stage : Field
desk_stage = field desk 4

abbrev pub desk_owed : Field
desk_owed = field desk 5

abbrev pub desk_need : Field
desk_need = field desk 6

-- turn 1 of 60, force 0, land movement, quiet
abbrev pub quiet_desk : Row
quiet_desk = one 1 ∷ one 60 ∷ one 0 ∷ one 0 ∷ one 0 ∷ one 0 ∷ two 0 ∷ []

-- "six routes of four 16-bit hexes (65535 = none)"
abbrev pub route_hex : ℕ → Field
route_hex j = field routes j

abbrev pub no_routes : List Row
no_routes = replicate route_count (replicate route_hexes (two nowhere))

-- a map of w by h plain hexes with these units, a chart of ones, one column, and a quiet desk that names no players
abbrev pub plain : ℕ → ℕ → List Row → Parts
plain w h us =
    replicate chart_rows plain_terrain
    ∷ (even_odds ∷ [])
    ∷ (plain_size w h ∷ [])
    ∷ replicate (w * h) plain_hex
    ∷ us
    ∷ (quiet_desk ∷ [])
    ∷ no_routes
    ∷ []
    ∷ []

-- element k of a list changed
unfoldable pub on_place : {A : Type 0} → ℕ → (A → A) → List A → List A
on_place k f [] = []
on_place zero f (a ∷ l) = f a ∷ l
on_place (suc k) f (a ∷ l) = a ∷ on_place k f l

unfoldable pub anew : ℕ → Number → Number
anew x (one n) = one x
anew x (two n) = two x

-- a row with the number x in a field
unfoldable pub having : Row → Field → ℕ → Row
having r f x = on_place f.place (anew x) r

-- the parts with the number x in a field of row k
unfoldable pub but : Parts → Field → ℕ → ℕ → Parts
but p f k x = on_place f.part (on_place k (λ r. having r f x)) p

-- the desk's numbers have one row
unfoldable pub but_desk : Parts → Field → ℕ → Parts
but_desk p f x = but p f 0 x

-- the same with these players of the four forces
unfoldable pub seated : Parts → ℕ → ℕ → ℕ → ℕ → Parts
seated p a b c d = on_place players (λ r. (one a ∷ one b ∷ one c ∷ one d ∷ []) ∷ []) p

unfoldable pub bytes : Row → List ℕ
bytes [] = []
bytes (one n ∷ r) = n ∷ bytes r
bytes (two n ∷ r) = n % 256 ∷ n / 256 ∷ bytes r

unfoldable pub listed : List Row → List ℕ
listed [] = []
listed (r ∷ rs) = bytes r ++ listed rs

abbrev part : Parts → ℕ → List Row
part p k = get_or p k []

-- the five bodies: results and units begin with their count
unfoldable pub bodies : Parts → List (List ℕ)
bodies p =
    listed (part p chart)
    ∷ (bytes (one (length (part p results)) ∷ []) ++ listed (part p results))
    ∷ (listed (part p size) ++ listed (part p hexes))
    ∷ (bytes (two (length (part p units)) ∷ []) ++ listed (part p units))
    ∷ (listed (part p desk) ++ listed (part p routes) ++ listed (part p players))
    ∷ []

-- "entries of offset and length (two little-endian 16-bit numbers each)", of bodies of which the first begins at a byte
unfoldable pub entries : ℕ → List (List ℕ) → List Row
entries start [] = []
entries start (b ∷ bs) = (two start ∷ two (length b) ∷ []) ∷ entries (start + length b) bs

unfoldable pub contents : Parts → List Row
contents p = entries (entry_size * length (bodies p)) (bodies p)

-- "then the bodies in this order, without gap or tail"
unfoldable pub end_to_end : List (List ℕ) → List ℕ
end_to_end [] = []
end_to_end (b ∷ bs) = b ++ end_to_end bs

-- the bytes of a position
unfoldable pub built : Parts → List ℕ
built p = listed (contents p) ++ end_to_end (bodies p)

-- the same with contents that lie: another offset for body k, or another length
unfoldable pub misplaced : Parts → ℕ → ℕ → List ℕ
misplaced p k x = listed (on_place k (on_place 0 (anew x)) (contents p)) ++ end_to_end (bodies p)

unfoldable pub mismeasured : Parts → ℕ → ℕ → List ℕ
mismeasured p k x = listed (on_place k (on_place 1 (anew x)) (contents p)) ++ end_to_end (bodies p)

-- 'unfolding building' opens all that the bytes are computed by
unfoldable pub building : ℕ
unfolding on_place anew having but but_desk seated bytes listed bodies entries contents end_to_end built misplaced mismeasured
building = 0
