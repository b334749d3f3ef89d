-- A lawful board stays lawful when a unit's marks change, when a unit goes where there is room, and when the clock goes on.
-- Assumes nothing.
use Prim.Native.Nat.{ℕ, ◌≤◌, ◌<◌}
use mathlib.Core.Path.{◌≡◌, refl, sym, ap, ◌∙◌}
use mathlib.Core.Bool.{true}
use native.Mathlib.Omega.{arith}
use native.Mathlib.Decide.{dec_lt}
use lib.Dec.{eqb}
use borrow.Author.Tests.{lt-ltb}
use Rattle.position.specs.Bits.{marks_end, has, tried, faced}
use Rattle.position.specs.Board.{Board, nowhere, force_of}
use Rattle.position.specs.Ground.{standable}
use Rattle.position.specs.Crowd.{crowd, others}
use Rattle.position.specs.Shape.{In}
use Rattle.acceptance.specs.Accepted.{StandOk, UnitOk, PairOk, UnitsOk, ClockOk, RetreatsOk, Lawful}
use Rattle.position.specs.Change.Change.{placed, marked, timed}
use Rattle.position.specs.Effect.{with_hex, with_units, change}
use Rattle.position.specs.Stage as Stage
use Rattle.position.proofs.Tallies.{same_or, not_both, equals, but, but_self, but_other, tally_same}
use Rattle.position.proofs.Crowds.{others_is, crowd_with, crowd_without}
use Rattle.position.proofs.Sides.{standable_off}
use Rattle.position.proofs.Effects.{upd_there, upd_else, upd_case, faced_face}
use Rattle.acceptance.proofs.Carries.{
  Fixed,
  fixed_units,
  fixed_change,
  standable_by,
  crowd_by,
  routes_ok_by,
  stand_by,
  unit_by,
  pair_by,
  stage_by,
  retreats_by,
  lawful_by,
}

-- the marks of unit w in c suit the unit as it stands in b, and hide nothing that was seen
pub record Suited (b c : Board) (w : ℕ) : Type 0 where
  pub marks : c.units.state.marks w < marks_end
  pub face : has tried (b.units.state.marks w) ≡ true → has tried (c.units.state.marks w) ≡ true
  pub destroyed : b.units.state.hex w ≡ nowhere → c.units.state.marks w ≤ tried

pub suited_same : {b : Board} → Lawful b → (w : ℕ) → w < b.units.count → Suited b b w
suited_same l w h =
    let o = l.units.each w h in
    record { marks = o.counter.marks; face = λ e. e; destroyed = λ e. (o.stand.destroyed e).marks }

-- other marks and another clock: everything else is as it was
pub lawful_still :
    {b c : Board} → Fixed b c → c.units.state.hex ≡ b.units.state.hex → c.units.state.role ≡ b.units.state.role
    → c.desk.battle ≡ b.desk.battle → c.desk.route ≡ b.desk.route → ((w : ℕ) → w < b.units.count → Suited b c w) → ClockOk c.desk → Lawful b → Lawful c
lawful_still {b} {c} f hex role battle route s k l =
    let at : (w : ℕ) → c.units.state.hex w ≡ b.units.state.hex w = λ w i. hex i w in
    let duty : (w : ℕ) → c.units.state.role w ≡ b.units.state.role w = λ w i. role i w in
    lawful_by f
    (record {
      each =
          λ w h.
          let n : w < b.units.count = omega (arith, f.count) in
          let o = l.units.each w n in
          let t = s w n in
          unit_by f w (duty w) t.marks t.face (λ e. sym (at w) ∙ e)
          (stand_by f w (duty w) (at w) t.destroyed (λ r. rw (crowd_by f hex (b.units.state.hex w)) r) o.stand)
          o;
      pairs =
          λ u h w g.
          let o = l.units.pairs u (omega (arith, f.count)) w (omega (arith, f.count)) in
          pair_by f u w (duty u) (duty w)
          (λ d n e. (o.two d).apart (λ z. n (at u ∙ z)) (sym (at w) ∙ e ∙ at u))
          o;
    })
    k
    (stage_by f role route battle (λ e. retreats_by f role route hex battle (l.stage.during.retreats e)) l.stage)
    (routes_ok_by f route l.routes)
    l

-- marks that unit u may have: "Destroyed units have .. no mark but tried"
pub record Markable (b : Board) (u m : ℕ) : Type 0 where
  pub marks : m < marks_end
  pub destroyed : b.units.state.hex u ≡ nowhere → m ≤ tried

faced_small : (old m : ℕ) → m < marks_end → faced old m < marks_end
unfolding faced
faced_small old m l = omega arith

faced_bare : (old m : ℕ) → m ≤ tried → faced old m ≤ tried
unfolding faced
faced_bare old m l = omega arith

pub lawful_marked : {b : Board} → Lawful b → (u m : ℕ) → Markable b u m → Lawful (change b (marked u m))
unfolding change
lawful_marked {b} l u m k =
    lawful_still (fixed_change b (marked u m)) refl refl refl refl (λ w h. suited w (suited_same l w h)) l.clock l
  where
    after : (P : ℕ → Type 0) (w : ℕ) → (w ≡ u → P (faced (b.units.state.marks u) m)) → P (b.units.state.marks w) → P ((change b (marked u m)).units.state.marks w)
    after P w x y = upd_case P b.units.count b.units.state.marks u (faced (b.units.state.marks u) m) w (λ _ e. x e) y

    suited : (w : ℕ) → Suited b b w → Suited b (change b (marked u m)) w
    suited w s =
        record {
          marks = after (λ x. x < marks_end) w (λ e. faced_small (b.units.state.marks u) m k.marks) s.marks;
          face =
              λ t.
              after (λ x. has tried x ≡ true) w (λ e. faced_face (b.units.state.marks u) m ∙ ap (λ (x : ℕ). has tried (b.units.state.marks x)) (sym e) ∙ t) t;
          destroyed =
              λ z.
              after (λ x. x ≤ tried) w (λ e. faced_bare (b.units.state.marks u) m (k.destroyed (ap b.units.state.hex (sym e) ∙ z))) (s.destroyed z);
        }

-- "turn 1..60, last turn 1..60 not below turn, force 0..3, phase"
pub lawful_timed :
    {b : Board} → Lawful b → b.desk.battle.stage ≡ Stage.quiet → (t f ph : ℕ) → In 1 t 60 → t ≤ b.desk.last_turn → f ≤ 3 → ph ≤ 2
    → Lawful (change b (timed t f ph))
unfolding change
lawful_timed {b} l z t f ph i n force phase =
    let k = l.clock in
    lawful_still (fixed_change b (timed t f ph)) refl refl refl refl
    (λ w h. let s = suited_same l w h in record { marks = s.marks; face = s.face; destroyed = s.destroyed })
    (record {
      turn = i;
      last_turn = record { low = n; high = k.last_turn.high };
      force = force;
      phase = phase;
      stage = k.stage;
      combat = λ x. absurd (x z);
    })
    l

-- hex h takes unit u: "stand on surface 0 or 1 and unprohibited terrain, at most three in a hex, of one force"
pub record Room (b : Board) (u h : ℕ) : Type 0 where
  pub hex : h ≡ nowhere → ⊥
  pub stands : standable b h ≡ true
  pub few : others b u h ≤ 2
  pub own : (w : ℕ) → w < b.units.count → (w ≡ u → ⊥) → b.units.state.hex w ≡ h → force_of b w ≡ force_of b u

-- unit u on hex h
abbrev moved : Board → ℕ → ℕ → Board
moved b u h = with_units b (with_hex b.units u h)

-- such a hex is on the map
pub standable_on : (b : Board) (h : ℕ) → standable b h ≡ true → h < b.map.hexes
standable_on b h s = at (dec_lt h b.map.hexes)
  where
    at : Dec (h < b.map.hexes) → h < b.map.hexes
    at (yes l) = l
    at (no n) = not_both (standable b h) s (standable_off b h (omega arith))

placed_is : (b : Board) (u h : ℕ) → standable b h ≡ true → change b (placed u h) ≡ moved b u h
unfolding change
placed_is b u h s = simp (lt-ltb h b.map.hexes (standable_on b h s))

fixed : (b : Board) (u h : ℕ) → Fixed b (moved b u h)
fixed b u h = fixed_units b (with_hex b.units u h) refl refl

module _ {b : Board} (u h : ℕ) (n : u < b.units.count) (r : Room b u h) where
  there : (w : ℕ) → w ≡ u → (moved b u h).units.state.hex w ≡ h
  there w e = ap (moved b u h).units.state.hex e ∙ upd_there b.units.count b.units.state.hex u h n

  else : (w : ℕ) → (w ≡ u → ⊥) → (moved b u h).units.state.hex w ≡ b.units.state.hex w
  else w e = upd_else b.units.count b.units.state.hex u h w (λ _ z. e z)

  equals_else : (x w : ℕ) → (w ≡ u → ⊥) → equals (moved b u h).units.state.hex x w ≡ equals b.units.state.hex x w
  unfolding equals
  equals_else x w e = ap (λ (k : ℕ). eqb k x) (else w e)

  others_kept : (x : ℕ) → others (moved b u h) u x ≡ others b u x
  others_kept x =
      let t = equals (moved b u h).units.state.hex x in
      let s = equals b.units.state.hex x in
      others_is (moved b u h) u x
      ∙ tally_same (but t u) (but s u) b.units.count
      (λ k m.
      same_or k u
      (λ e. but_self t u k e ∙ sym (but_self s u k e))
      (λ e. but_other t u k e ∙ equals_else x k e ∙ sym (but_other s u k e)))
      ∙ sym (others_is b u x)

  crowd_there : crowd (moved b u h) h ≤ 3
  crowd_there = omega (arith, crowd_with (moved b u h) u h n (there u refl), others_kept h, r.few)

  crowd_else : (x : ℕ) → crowd b x ≤ 3 → crowd (moved b u h) x ≤ 3
  crowd_else x m =
      same_or h x
      (λ e. rw (sym e) crowd_there)
      (λ e.
      let c = crowd_without (moved b u h) u x (λ z. e (sym (there u refl) ∙ z)) in
      same_or (b.units.state.hex u) x
      (λ z. omega (arith, others_kept x, crowd_with b u x n z))
      (λ z. omega (arith, others_kept x, crowd_without b u x z)))

  stand_there : (w : ℕ) → w ≡ u → StandOk (moved b u h) w
  stand_there w e =
      record {
        destroyed = λ z. absurd (r.hex (sym (there w e) ∙ z));
        mapped =
            λ _.
            record {
              stands = ap (standable (moved b u h)) (there w e) ∙ standable_by (fixed b u h) h ∙ r.stands;
              room = rw (there w e) crowd_there;
            };
      }

  stand_else : (w : ℕ) → (w ≡ u → ⊥) → UnitOk b w → StandOk (moved b u h) w
  stand_else w e o =
      stand_by (fixed b u h) w refl (else w e) (λ z. (o.stand.destroyed z).marks) (crowd_else (b.units.state.hex w)) o.stand

  unit_moved : (w : ℕ) → UnitOk b w → UnitOk (moved b u h) w
  unit_moved w o =
      let by = unit_by (fixed b u h) w refl o.counter.marks (λ t. t) in
      same_or w u
      (λ e. by (λ z. absurd (r.hex (sym (there w e) ∙ z))) (stand_there w e) o)
      (λ e. by (λ z. sym (else w e) ∙ z) (stand_else w e o) o)

  pair_moved : (v w : ℕ) → v < b.units.count → w < b.units.count → PairOk b v w → PairOk (moved b u h) v w
  pair_moved v w hv hw o =
      pair_by (fixed b u h) v w refl refl
      (λ d m z.
      same_or v u
      (λ e.
      same_or w u
      (λ g. d (ap (force_of b) (e ∙ sym g)))
      (λ g. d (ap (force_of b) e ∙ sym (r.own w hw g (sym (else w g) ∙ z ∙ there v e)))))
      (λ e.
      same_or w u
      (λ g. d (r.own v hv e (sym (else v e) ∙ sym z ∙ there w g) ∙ ap (force_of b) (sym g)))
      (λ g. (o.two d).apart (λ x. m (else v e ∙ x)) (sym (else w g) ∙ z ∙ else v e))))
      o

  -- the unit is there then
  pub placed_hex : (change b (placed u h)).units.state.hex u ≡ h
  placed_hex = rw (placed_is b u h r.stands) (there u refl)

-- the lines on units, with unit u on hex h
units_moved : {b : Board} → UnitsOk b → (u h : ℕ) → u < b.units.count → Room b u h → UnitsOk (moved b u h)
units_moved o u h n r =
    record {
      each = λ w m. unit_moved u h n r w (o.each w m);
      pairs = λ v m w k. pair_moved u h n r v w m k (o.pairs v m w k);
    }

pub units_placed : {b : Board} → UnitsOk b → (u h : ℕ) → u < b.units.count → Room b u h → UnitsOk (change b (placed u h))
units_placed {b} o u h n r = rw (placed_is b u h r.stands) (units_moved o u h n r)

-- role 1 units may stand in other hexes then, so what the stage of retreats asks is a condition
pub lawful_placed :
    {b : Board} → Lawful b → (u h : ℕ) → u < b.units.count → Room b u h
    → (b.desk.battle.stage ≡ Stage.retreats → RetreatsOk (change b (placed u h))) → Lawful (change b (placed u h))
lawful_placed {b} l u h n r retreats =
    let e = placed_is b u h r.stands in
    let f = fixed b u h in
    rw e
    (lawful_by f (units_moved l.units u h n r) l.clock (stage_by f refl refl refl (rw e at retreats) l.stage)
    (routes_ok_by f refl l.routes)
    l)
