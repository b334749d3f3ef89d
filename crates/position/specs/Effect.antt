-- What a change does to the board. A ruling's consequences are followed here, without bytes.
-- Assumes nothing.
use Rattle.std.specs.Prelude.{ℕ, zero, suc, cond, ◌&&◌, List, [], ◌∷◌, ltb, eqb}
use Rattle.position.specs.Bits.{with, tried, faced}
use Rattle.position.specs.Role as Role
use Rattle.position.specs.Layout.{route_count}
use Rattle.position.specs.Board.{Board, Units, State, Desk, nowhere}
use Rattle.position.specs.Change.{Change}
use Rattle.position.specs.Change.Change.{placed, destroyed, marked, assigned, timed, staged, routed, unrouted}

-- the numbers f of a table of n, but x at u; f where the table has no u
unfoldable pub upd : ℕ → (ℕ → ℕ) → ℕ → ℕ → ℕ → ℕ
upd n f u x k = cond (ltb u n && eqb k u) x (f k)

-- the units with another state, and the desk with another clock, battle or routes
abbrev pub with_state : Units → State → Units
with_state s t = record { count = s.count; counter = s.counter; state = t }

abbrev pub with_hex : Units → ℕ → ℕ → Units
with_hex s u h =
    let t = s.state in
    with_state s (record { hex = upd s.count t.hex u h; shown = t.shown; marks = t.marks; role = t.role })

abbrev pub with_marks : Units → ℕ → ℕ → Units
with_marks s u m =
    let t = s.state in
    with_state s (record { hex = t.hex; shown = t.shown; marks = upd s.count t.marks u m; role = t.role })

abbrev pub with_role : Units → ℕ → ℕ → Units
with_role s u r =
    let t = s.state in
    with_state s (record { hex = t.hex; shown = t.shown; marks = t.marks; role = upd s.count t.role u r })

-- unit u turned over, which shows its strength x
abbrev pub with_shown : Units → ℕ → ℕ → Units
with_shown s u x =
    let t = s.state in
    with_state s
    (record {
      hex = t.hex;
      shown = upd s.count t.shown u x;
      marks = upd s.count t.marks u (with tried (t.marks u));
      role = t.role;
    })

abbrev pub with_clock : Desk → ℕ → ℕ → ℕ → Desk
with_clock d t f ph =
    record {
      clock = record { turn = t; force = f; phase = ph };
      last_turn = d.last_turn;
      battle = d.battle;
      route = d.route;
      player = d.player;
    }

abbrev pub with_stage : Desk → ℕ → ℕ → ℕ → Desk
with_stage d s n x =
    record {
      clock = d.clock;
      last_turn = d.last_turn;
      battle = record { stage = s; owed = n; need = x };
      route = d.route;
      player = d.player;
    }

abbrev pub with_routes : Desk → (ℕ → ℕ → ℕ) → Desk
with_routes d f = record { clock = d.clock; last_turn = d.last_turn; battle = d.battle; route = f; player = d.player }

-- number j of the four
abbrev pub of_four : ℕ → ℕ → ℕ → ℕ → ℕ → ℕ
of_four zero a b c d = a
of_four (suc zero) a b c d = b
of_four (suc (suc zero)) a b c d = c
of_four (suc (suc (suc zero))) a b c d = d
of_four (suc (suc (suc (suc j)))) a b c d = nowhere

-- the routes f, but route r is the four numbers
unfoldable pub reroute : (ℕ → ℕ → ℕ) → ℕ → ℕ → ℕ → ℕ → ℕ → ℕ → ℕ → ℕ
reroute f r a b c d i j = cond (ltb r route_count && eqb i r) (of_four j a b c d) (f i j)

unfoldable pub unfilled : ℕ → ℕ → ℕ
unfilled i j = nowhere

abbrev pub with_units : Board → Units → Board
with_units b s = record { chart = b.chart; results = b.results; map = b.map; units = s; desk = b.desk }

abbrev pub with_desk : Board → Desk → Board
with_desk b d = record { chart = b.chart; results = b.results; map = b.map; units = b.units; desk = d }

unfoldable pub change : Board → Change → Board
change b (placed u h) = cond (ltb h b.map.hexes) (with_units b (with_hex b.units u h)) b
change b (destroyed u) =
    with_units b (with_role (with_marks (with_hex b.units u nowhere) u (faced (b.units.state.marks u) 0)) u Role.none)
change b (marked u m) = with_units b (with_marks b.units u (faced (b.units.state.marks u) m))
change b (assigned u r) = with_units b (with_role b.units u r)
change b (timed t f ph) = with_desk b (with_clock b.desk t f ph)
change b (staged s n x) = with_desk b (with_stage b.desk s n x)
change b (routed r w x y z) = with_desk b (with_routes b.desk (reroute b.desk.route r w x y z))
change b unrouted = with_desk b (with_routes b.desk unfilled)

unfoldable pub changes : Board → List Change → Board
changes b [] = b
changes b (x ∷ xs) = changes (change b x) xs

-- unit u turned over, which shows its strength x
unfoldable pub turned_up : Board → ℕ → ℕ → Board
turned_up b u x = with_units b (with_shown b.units u x)
