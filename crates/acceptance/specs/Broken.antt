-- Whether a position is accepted is decided: `broken` is the test of refusal 1.
-- Assumes nothing.
use Rattle.std.specs.Prelude.{ℕ, ◌+◌, ◌≡◌, List, Bool, true, false, length}
use Rattle.std.proofs.Common.{arith}
use Rattle.std.proofs.Math.Decide.{dec_le, dec_lt, ℕ_discrete}
use Rattle.position.specs.Stage as Stage
use Rattle.position.specs.Role as Role
use Rattle.clock.specs.Phase as Phase
use Rattle.clock.specs.Clock.{last_force}
use Rattle.position.specs.Bits.{has, tried, marks_end}
use Rattle.position.specs.Kind.{home, may_belong, may_allow, always_tried}
use Rattle.position.specs.Layout as Layout
use Rattle.position.specs.Board.{Board, Desk, board, nowhere, force_of}
use Rattle.position.specs.Ground.{joined, standable}
use Rattle.position.specs.Crowd.{crowd, holders, owing_hexes, filled, routes}
use Rattle.position.specs.Shape.{Entry, Shaped}
use Rattle.setting.specs.Decide.{iff, both, given, never, below, holds?, answers_no, says_no, says_yes}
use Rattle.setting.specs.Decided.{in?, terrain?, results?, map?}
use Rattle.acceptance.specs.Accepted.{MappedOk, DestroyedOk, RoleOk, CounterOk, DutyOk, StandOk, UnitOk, TwoForcesOk, OneForceOk, PairOk, UnitsOk, ClockOk, PlayerOk, QuietOk, RetreatsOk, LossesOk, AdvancesOk, DuringOk, StageOk, LinkOk, PlaceOk, RouteOk, Lawful, Accepted}

unfoldable pub entry? : (p : List ℕ) (k at long : ℕ) → Dec (Entry p k at long)
entry? p k at long =
    iff (λ x. record { offset = x.0; extent = x.1 }) (λ s. (s.offset, s.extent))
    (both (ℕ_discrete (Layout.offset p k) at) (ℕ_discrete (Layout.extent p k) long))

unfoldable pub shaped? : (p : List ℕ) → Dec (Shaped p)
shaped? p =
    iff
    (λ x.
    record {
      chart = x.0;
      results = x.1.0;
      columns = x.1.1.0;
      map = x.1.1.1.0;
      width = x.1.1.1.1.0;
      height = x.1.1.1.1.1.0;
      units = x.1.1.1.1.1.1.0;
      count = x.1.1.1.1.1.1.1.0;
      desk = x.1.1.1.1.1.1.1.1.0;
      whole = x.1.1.1.1.1.1.1.1.1;
    })
    (λ s. (s.chart, (s.results, (s.columns, (s.map, (s.width, (s.height, (s.units, (s.count, (s.desk, s.whole))))))))))
    (both (entry? p Layout.chart_body Layout.chart_at Layout.chart_length)
    (both (entry? p Layout.results_body Layout.results_at (Layout.results_length p))
    (both (in? 1 (Layout.columns p) 12)
    (both (entry? p Layout.map_body (Layout.map_at p) (Layout.map_length p))
    (both (in? 1 (Layout.width p) 64)
    (both (in? 1 (Layout.height p) 64)
    (both (entry? p Layout.units_body (Layout.units_at p) (Layout.units_length p))
    (both (dec_le (Layout.count p) Layout.units_most)
    (both (entry? p Layout.desk_body (Layout.desk_at p) (Layout.desk_length p))
    (ℕ_discrete (length p) (Layout.desk_at p + Layout.desk_length p)))))))))))

unfoldable pub mapped? : (b : Board) (u : ℕ) → Dec (MappedOk b u)
mapped? b u =
    iff (λ x. record { stands = x.0; room = x.1 }) (λ s. (s.stands, s.room))
    (both (holds? (standable b (b.units.state.hex u))) (dec_le (crowd b (b.units.state.hex u)) 3))

unfoldable pub destroyed? : (b : Board) (u : ℕ) → Dec (DestroyedOk b u)
destroyed? b u =
    iff (λ x. record { role = x.0; marks = x.1 }) (λ s. (s.role, s.marks))
    (both (ℕ_discrete (b.units.state.role u) Role.none) (dec_le (b.units.state.marks u) tried))

unfoldable pub role? : (b : Board) (u : ℕ) → Dec (RoleOk b u)
role? b u =
    iff (λ x. record { tried = x.0; mapped = x.1 }) (λ s. (s.tried, s.mapped))
    (both (holds? (has tried (b.units.state.marks u))) (never (ℕ_discrete (b.units.state.hex u) nowhere)))

unfoldable pub counter? : (b : Board) (u : ℕ) → Dec (CounterOk b u)
counter? b u =
    iff (λ x. record { belongs = x.0; allows = x.1.0; marks = x.1.1.0; always = x.1.1.1 })
    (λ s. (s.belongs, (s.allows, (s.marks, s.always))))
    (both (holds? (may_belong (b.units.counter.kind u) (b.units.counter.nationality u)))
    (both (holds? (may_allow (b.units.counter.kind u) (b.units.counter.allowance u)))
    (both (dec_lt (b.units.state.marks u) marks_end)
    (given (holds? (always_tried (b.units.counter.kind u))) (holds? (has tried (b.units.state.marks u)))))))

unfoldable pub duty? : (b : Board) (u : ℕ) → Dec (DutyOk b u)
duty? b u =
    iff (λ x. record { role = x.0; held = x.1 }) (λ s. (s.role, s.held))
    (both (dec_le (b.units.state.role u) Role.advances) (given (never (ℕ_discrete (b.units.state.role u) Role.none)) (role? b u)))

unfoldable pub stand? : (b : Board) (u : ℕ) → Dec (StandOk b u)
stand? b u =
    iff (λ x. record { destroyed = x.0; mapped = x.1 }) (λ s. (s.destroyed, s.mapped))
    (both (given (ℕ_discrete (b.units.state.hex u) nowhere) (destroyed? b u))
    (given (never (ℕ_discrete (b.units.state.hex u) nowhere)) (mapped? b u)))

unfoldable pub unit? : (b : Board) (u : ℕ) → Dec (UnitOk b u)
unit? b u =
    iff (λ x. record { counter = x.0; duty = x.1.0; stand = x.1.1 }) (λ s. (s.counter, (s.duty, s.stand)))
    (both (counter? b u) (both (duty? b u) (stand? b u)))

unfoldable pub twoForces? : (b : Board) (u w : ℕ) → Dec (TwoForcesOk b u w)
twoForces? b u w =
    iff (λ x. record { apart = x.0; roles = x.1 }) (λ s. (s.apart, s.roles))
    (both
    (given (never (ℕ_discrete (b.units.state.hex u) nowhere)) (never (ℕ_discrete (b.units.state.hex w) (b.units.state.hex u))))
    (given (never (ℕ_discrete (b.units.state.role u) Role.none)) (never (ℕ_discrete (b.units.state.role w) (b.units.state.role u)))))

unfoldable pub oneForce? : (b : Board) (u w : ℕ) → Dec (OneForceOk b u w)
oneForce? b u w =
    iff (λ x. record { roles = x }) (λ s. s.roles)
    (given (ℕ_discrete (b.units.state.role u) Role.owes) (never (ℕ_discrete (b.units.state.role w) Role.advances)))

unfoldable pub pair? : (b : Board) (u w : ℕ) → Dec (PairOk b u w)
pair? b u w =
    iff (λ x. record { two = x.0; one = x.1 }) (λ s. (s.two, s.one))
    (both (given (never (ℕ_discrete (force_of b u) (force_of b w))) (twoForces? b u w))
    (given (ℕ_discrete (force_of b u) (force_of b w)) (oneForce? b u w)))

unfoldable pub units? : (b : Board) → Dec (UnitsOk b)
units? b =
    iff (λ x. record { each = x.0; pairs = x.1 }) (λ s. (s.each, s.pairs))
    (both (below (unit? b) b.units.count)
    (below (λ u. below (pair? b u) b.units.count) b.units.count))

unfoldable pub clock? : (d : Desk) → Dec (ClockOk d)
clock? d =
    iff
    (λ x.
    record {
      turn = x.0;
      last_turn = x.1.0;
      force = x.1.1.0;
      phase = x.1.1.1.0;
      stage = x.1.1.1.1.0;
      combat = x.1.1.1.1.1;
    })
    (λ s. (s.turn, (s.last_turn, (s.force, (s.phase, (s.stage, s.combat))))))
    (both (in? 1 d.clock.turn 60)
    (both (in? d.clock.turn d.last_turn 60)
    (both (dec_le d.clock.force last_force)
    (both (dec_le d.clock.phase Phase.last)
    (both (dec_le d.battle.stage Stage.advances) (given (never (ℕ_discrete d.battle.stage Stage.quiet)) (ℕ_discrete d.clock.phase Phase.combat)))))))

unfoldable pub player? : (d : Desk) (f : ℕ) → Dec (PlayerOk d f)
player? d f =
    iff (λ x. record { small = x.0; apart = x.1 }) (λ s. (s.small, s.apart))
    (both (dec_le (d.player f) 3) (given (never (ℕ_discrete f home)) (never (ℕ_discrete (d.player f) (d.player home)))))

unfoldable pub quiet? : (b : Board) → Dec (QuietOk b)
quiet? b =
    iff (λ x. record { owing = x.0; advancing = x.1.0; routes = x.1.1 }) (λ s. (s.owing, (s.advancing, s.routes)))
    (both (ℕ_discrete (holders b Role.owes) 0) (both (ℕ_discrete (holders b Role.advances) 0) (ℕ_discrete (routes b) 0)))

unfoldable pub retreats? : (b : Board) → Dec (RetreatsOk b)
retreats? b =
    iff (λ x. record { owed = x.0; some = x.1.0; room = x.1.1 }) (λ s. (s.owed, (s.some, s.room)))
    (both (in? 1 b.desk.battle.owed 3)
    (both (dec_le 1 (owing_hexes b)) (dec_le (owing_hexes b + routes b) Layout.route_count)))

unfoldable pub losses? : (b : Board) → Dec (LossesOk b)
losses? b =
    iff (λ x. record { need = x.0; owing = x.1.0; advancing = x.1.1 }) (λ s. (s.need, (s.owing, s.advancing)))
    (both (in? 1 b.desk.battle.need 1080) (both (in? 1 (holders b Role.owes) 18) (ℕ_discrete (holders b Role.advances) 0)))

unfoldable pub advances? : (b : Board) → Dec (AdvancesOk b)
advances? b =
    iff (λ x. record { advancing = x.0; owing = x.1 }) (λ s. (s.advancing, s.owing))
    (both (dec_le 1 (holders b Role.advances)) (ℕ_discrete (holders b Role.owes) 0))

unfoldable pub during? : (b : Board) → Dec (DuringOk b)
during? b =
    iff (λ x. record { quiet = x.0; retreats = x.1.0; losses = x.1.1.0; advances = x.1.1.1 })
    (λ s. (s.quiet, (s.retreats, (s.losses, s.advances))))
    (both (given (ℕ_discrete b.desk.battle.stage Stage.quiet) (quiet? b))
    (both (given (ℕ_discrete b.desk.battle.stage Stage.retreats) (retreats? b))
    (both (given (ℕ_discrete b.desk.battle.stage Stage.losses) (losses? b))
    (given (ℕ_discrete b.desk.battle.stage Stage.advances) (advances? b)))))

unfoldable pub stage? : (b : Board) → Dec (StageOk b)
stage? b =
    iff (λ x. record { during = x.0; owed = x.1.0; need = x.1.1 }) (λ s. (s.during, (s.owed, s.need)))
    (both (during? b)
    (both (given (never (ℕ_discrete b.desk.battle.stage Stage.retreats)) (ℕ_discrete b.desk.battle.owed 0))
    (given (never (ℕ_discrete b.desk.battle.stage Stage.losses)) (ℕ_discrete b.desk.battle.need 0))))

unfoldable pub link? : (b : Board) (r j : ℕ) → Dec (LinkOk b r j)
link? b r j =
    iff (λ x. record { front = x.0; step = x.1 }) (λ s. (s.front, s.step))
    (both
    (given (never (ℕ_discrete (b.desk.route r (j + 1)) nowhere)) (never (ℕ_discrete (b.desk.route r j) nowhere)))
    (given (never (ℕ_discrete (b.desk.route r (j + 1)) nowhere))
    (holds? (joined b.map (b.desk.route r j) (b.desk.route r (j + 1))))))

unfoldable pub place? : (b : Board) (r j : ℕ) → Dec (PlaceOk b r j)
place? b r j =
    iff (λ x. record { link = x.0; stands = x.1 }) (λ s. (s.link, s.stands))
    (both (link? b r j)
    (given (never (ℕ_discrete (b.desk.route r j) nowhere)) (holds? (standable b (b.desk.route r j)))))

unfoldable pub route? : (b : Board) (r : ℕ) → Dec (RouteOk b r)
route? b r =
    iff (λ x. record { first = x.0; places = x.1 }) (λ s. (s.first, s.places))
    (both (given (holds? (filled b (r + 1))) (holds? (filled b r))) (below (place? b r) Layout.route_hexes))

unfoldable pub lawful? : (b : Board) → Dec (Lawful b)
lawful? b =
    iff
    (λ x.
    record {
      chart = x.0;
      results = x.1.0;
      map = x.1.1.0;
      units = x.1.1.1.0;
      clock = x.1.1.1.1.0;
      players = x.1.1.1.1.1.0;
      stage = x.1.1.1.1.1.1.0;
      routes = x.1.1.1.1.1.1.1;
    })
    (λ s. (s.chart, (s.results, (s.map, (s.units, (s.clock, (s.players, (s.stage, s.routes))))))))
    (both (below (terrain? b.chart) Layout.chart_rows)
    (both (results? b.results)
    (both (map? b.map)
    (both (units? b)
    (both (clock? b.desk) (both (below (player? b.desk) Layout.forces) (both (stage? b) (below (route? b) Layout.route_count))))))))

unfoldable pub accepted? : (p : List ℕ) → Dec (Accepted p)
accepted? p =
    iff (λ x. record { shaped = x.0; strengths = x.1.0; lawful = x.1.1 }) (λ a. (a.shaped, (a.strengths, a.lawful)))
    (both (shaped? p)
    (both (below (λ u. in? 1 (Layout.strength p u) 60) (Layout.count p)) (lawful? (board p))))

-- "1 | position breaks a line above"
unfoldable pub broken : List ℕ → Bool
broken p = answers_no (accepted? p)

pub broken_true : {p : List ℕ} → (Accepted p → ⊥) → broken p ≡ true
unfolding broken
broken_true {p} n = says_no (accepted? p) n

pub broken_false : {p : List ℕ} → Accepted p → broken p ≡ false
unfolding broken
broken_false {p} a = says_yes (accepted? p) a

pub unbroken : (p : List ℕ) → broken p ≡ false → Accepted p
unbroken p e = at (accepted? p)
  where
    at : Dec (Accepted p) → Accepted p
    at (yes a) = a
    at (no n) = let z : ◌≡◌ {A = ℕ} 0 1 = cc (broken_true n) in absurd (omega arith)
