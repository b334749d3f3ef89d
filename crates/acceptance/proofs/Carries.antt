-- What no change touches, and what of a lawful board carries over to a board that agrees with it in a few fields.
-- Assumes nothing.
use Prim.Native.Nat.{ℕ, ◌+◌, ◌≤◌, ◌<◌}
use mathlib.Core.Path.{◌≡◌, refl, sym, ap, ◌∙◌}
use mathlib.Core.List.{List, [], ◌∷◌, ◌++◌}
use mathlib.Core.Bool.{Bool, true, false, not, ◌&&◌, cond}
use lib.Dec.{ltb, eqb}
use Rattle.position.specs.Bits.{marks_end, has, tried}
use Rattle.position.specs.Tally.{tally, any}
use Rattle.position.specs.Kind.{force}
use Rattle.position.specs.Layout.{route_count}
use Rattle.position.specs.Board.{Board, Counter, Units, Desk, nowhere, force_of}
use Rattle.position.specs.Ground.{standable}
use Rattle.position.specs.Crowd.{crowd, holders, owes_at, owing_hexes, filled, routes}
use Rattle.acceptance.specs.Accepted.{StandOk, UnitOk, PairOk, UnitsOk, ClockOk, PlayersOk, RetreatsOk, StageOk, LinkOk, PlaceOk, RoutesOk, Lawful}
use Rattle.position.specs.Change.{Change}
use Rattle.position.specs.Change.Change.{placed, destroyed, marked, assigned, timed, staged, routed, unrouted}
use Rattle.position.specs.Effect.{with_units, with_desk, change, changes}
use Rattle.position.specs.Stage as Stage

-- the tables, the counters, the last turn and the players
pub record Fixed (b c : Board) : Type 0 where
  pub chart : c.chart ≡ b.chart
  pub results : c.results ≡ b.results
  pub map : c.map ≡ b.map
  pub count : c.units.count ≡ b.units.count
  pub counter : c.units.counter ≡ b.units.counter
  pub last_turn : c.desk.last_turn ≡ b.desk.last_turn
  pub players : c.desk.player ≡ b.desk.player

module _ (b : Board) where
  -- other units with these counters, and another desk with this last turn and these players
  fixed_both :
      (s : Units) (d : Desk) → s.count ≡ b.units.count → s.counter ≡ b.units.counter → d.last_turn ≡ b.desk.last_turn
      → d.player ≡ b.desk.player → Fixed b (with_desk (with_units b s) d)
  fixed_both s d n k e g =
      record { chart = refl; results = refl; map = refl; count = n; counter = k; last_turn = e; players = g }

  pub fixed_units : (s : Units) → s.count ≡ b.units.count → s.counter ≡ b.units.counter → Fixed b (with_units b s)
  fixed_units s n k = fixed_both s b.desk n k refl refl

  pub fixed_desk : (d : Desk) → d.last_turn ≡ b.desk.last_turn → d.player ≡ b.desk.player → Fixed b (with_desk b d)
  fixed_desk d e g = fixed_both b.units d refl refl e g

  fixed_cond : (t : Bool) {c : Board} → Fixed b c → Fixed b (cond t c b)
  fixed_cond true f = f
  fixed_cond false f = fixed_desk b.desk refl refl

  pub fixed_change : (x : Change) → Fixed b (change b x)
  unfolding change
  fixed_change (placed u h) = fixed_cond (ltb h b.map.hexes) (fixed_units _ refl refl)
  fixed_change (destroyed u) = fixed_units _ refl refl
  fixed_change (marked u m) = fixed_units _ refl refl
  fixed_change (assigned u r) = fixed_units _ refl refl
  fixed_change (timed t f ph) = fixed_desk _ refl refl
  fixed_change (staged s n x) = fixed_desk _ refl refl
  fixed_change (routed r w x y z) = fixed_desk _ refl refl
  fixed_change unrouted = fixed_desk _ refl refl

pub changes_then : (xs ys : List Change) (b : Board) → changes b (xs ++ ys) ≡ changes (changes b xs) ys
unfolding changes
changes_then [] ys b = refl
changes_then (x ∷ xs) ys b = changes_then xs ys (change b x)

module _ {b c : Board} (f : Fixed b c) where
  -- what is printed on a counter
  pub nationality_by : c.units.counter.nationality ≡ b.units.counter.nationality
  nationality_by = ap (λ (x : Counter). x.nationality) f.counter

  pub kind_by : c.units.counter.kind ≡ b.units.counter.kind
  kind_by = ap (λ (x : Counter). x.kind) f.counter

  -- what is read off a few fields
  pub standable_by : (h : ℕ) → standable c h ≡ standable b h
  unfolding standable
  standable_by h = simp (f.map, f.chart)

  pub force_by : (u : ℕ) → force_of c u ≡ force_of b u
  unfolding force_of
  force_by u = ap (λ (n : ℕ → ℕ). force (n u)) nationality_by

  module _ (e : c.units.state.hex ≡ b.units.state.hex) where
    pub crowd_by : (h : ℕ) → crowd c h ≡ crowd b h
    unfolding crowd
    crowd_by h = λ i. tally (λ u. eqb (e i u) h) (f.count i)

    pub owing_by : c.units.state.role ≡ b.units.state.role → owing_hexes c ≡ owing_hexes b
    unfolding owing_hexes owes_at
    owing_by r =
        λ i. tally (λ u. eqb (r i u) 1 && not (any (λ w. eqb (r i w) 1 && eqb (e i w) (e i u)) u)) (f.count i)

  pub holders_by : c.units.state.role ≡ b.units.state.role → (r : ℕ) → holders c r ≡ holders b r
  unfolding holders
  holders_by e r = λ i. tally (λ u. eqb (e i u) r) (f.count i)

  module _ (e : c.desk.route ≡ b.desk.route) where
    filled_by : (r : ℕ) → filled c r ≡ filled b r
    unfolding filled
    filled_by r = λ i. not (eqb (e i r 0) nowhere)

    pub routes_by : routes c ≡ routes b
    unfolding routes filled
    routes_by = λ i. tally (λ r. not (eqb (e i r 0) nowhere)) route_count

    link_by : (r j : ℕ) → LinkOk b r j → LinkOk c r j
    link_by r j o = record { front = rw e o.front; step = rw (e, f.map) o.step }

    place_by : (r j : ℕ) → PlaceOk b r j → PlaceOk c r j
    place_by r j o =
        record {
          link = link_by r j o.link;
          stands = λ n. standable_by (c.desk.route r j) ∙ rw e (o.stands (rw e at n));
        }

    pub routes_ok_by : RoutesOk b → RoutesOk c
    routes_ok_by o r l =
        record {
          first = λ p. filled_by r ∙ (o r l).first (sym (filled_by (r + 1)) ∙ p);
          places = λ j m. place_by r j ((o r l).places j m);
        }

  -- one unit by itself
  module _ (w : ℕ) (role : c.units.state.role w ≡ b.units.state.role w) where
    pub stand_by :
        c.units.state.hex w ≡ b.units.state.hex w → (b.units.state.hex w ≡ nowhere → c.units.state.marks w ≤ tried)
        → (crowd b (b.units.state.hex w) ≤ 3 → crowd c (b.units.state.hex w) ≤ 3) → StandOk b w → StandOk c w
    stand_by e m r o =
        record {
          destroyed = rw e (λ n. record { role = role ∙ (o.destroyed n).role; marks = m n });
          mapped =
              λ n.
              let k = o.mapped (λ z. n (e ∙ z)) in
              record {
                stands = ap (standable c) e ∙ standable_by (b.units.state.hex w) ∙ k.stands;
                room = rw e (r k.room);
              };
        }

    pub unit_by :
        c.units.state.marks w < marks_end → (has tried (b.units.state.marks w) ≡ true → has tried (c.units.state.marks w) ≡ true)
        → (c.units.state.hex w ≡ nowhere → b.units.state.hex w ≡ nowhere) → StandOk c w → UnitOk b w → UnitOk c w
    unit_by m t n s o =
        record {
          counter =
              record {
                belongs = rw f.counter o.counter.belongs;
                allows = rw f.counter o.counter.allows;
                marks = m;
                always = rw f.counter (λ e. t (o.counter.always e));
              };
          duty =
              record {
                role = rw role o.duty.role;
                held =
                    λ z.
                    let d = o.duty.held (λ e. z (role ∙ e)) in
                    record { tried = t d.tried; mapped = λ e. d.mapped (n e) };
              };
          stand = s;
        }

  -- two units side by side
  pub pair_by :
      (u w : ℕ) → c.units.state.role u ≡ b.units.state.role u → c.units.state.role w ≡ b.units.state.role w
      → ((force_of b u ≡ force_of b w → ⊥) → (c.units.state.hex u ≡ nowhere → ⊥) → c.units.state.hex w ≡ c.units.state.hex u → ⊥)
      → PairOk b u w → PairOk c u w
  pair_by u w r s apart o =
      record {
        two =
            λ n.
            let d : force_of b u ≡ force_of b w → ⊥ = λ e. n (force_by u ∙ e ∙ sym (force_by w)) in
            record { apart = apart d; roles = rw (r, s) (o.two d).roles };
        one = λ e. record { roles = rw (r, s) (o.one (sym (force_by u) ∙ e ∙ force_by w)).roles };
      }

  -- what the stages ask
  module _ (role : c.units.state.role ≡ b.units.state.role) (route : c.desk.route ≡ b.desk.route) where
    pub stage_by : c.desk.battle ≡ b.desk.battle → (b.desk.battle.stage ≡ Stage.retreats → RetreatsOk c) → StageOk b → StageOk c
    stage_by e retreats o =
        let s : c.desk.battle.stage ≡ b.desk.battle.stage = λ i. (e i).stage in
        let n : c.desk.battle.owed ≡ b.desk.battle.owed = λ i. (e i).owed in
        let x : c.desk.battle.need ≡ b.desk.battle.need = λ i. (e i).need in
        let h = holders_by role in
        let d = o.during in
        record {
          during =
              record {
                quiet =
                    λ e.
                    let q = d.quiet (sym s ∙ e) in
                    record { owing = h 1 ∙ q.owing; advancing = h 2 ∙ q.advancing; routes = routes_by route ∙ q.routes };
                retreats = λ e. retreats (sym s ∙ e);
                losses =
                    λ e.
                    let q = d.losses (sym s ∙ e) in
                    record { need = rw x q.need; owing = rw (h 1) q.owing; advancing = h 2 ∙ q.advancing };
                advances =
                    λ e.
                    let q = d.advances (sym s ∙ e) in
                    record { advancing = rw (h 2) q.advancing; owing = h 1 ∙ q.owing };
              };
          owed = rw (s, n) o.owed;
          need = rw (s, x) o.need;
        }

    -- owing hexes stay where nobody moves
    pub retreats_by : c.units.state.hex ≡ b.units.state.hex → c.desk.battle ≡ b.desk.battle → RetreatsOk b → RetreatsOk c
    retreats_by e g o =
        let n : c.desk.battle.owed ≡ b.desk.battle.owed = λ i. (g i).owed in
        let k = owing_by e role in
        record { owed = rw n o.owed; some = rw k o.some; room = rw (k, routes_by route) o.room }

  -- the players
  players_by : PlayersOk b.desk → PlayersOk c.desk
  players_by o g m = record { small = rw f.players (o g m).small; apart = rw f.players (o g m).apart }

  -- the whole board
  pub lawful_by : UnitsOk c → ClockOk c.desk → StageOk c → RoutesOk c → Lawful b → Lawful c
  lawful_by u k s r l =
      record {
        chart = rw f.chart l.chart;
        results = rw f.results l.results;
        map = rw f.map l.map;
        units = u;
        clock = k;
        players = players_by l.players;
        stage = s;
        routes = r;
      }
