-- What each change does to the board, as an equation.
-- Assumes nothing.
use Prim.Native.Nat.{ℕ, ◌+◌, ◌*◌, ◌/◌, ◌%◌, ◌≤◌, ◌<◌}
use mathlib.Core.Path.{◌≡◌, refl, sym, ap, ap₂, fun_ext, ◌∙◌}
use mathlib.Core.List.{List}
use mathlib.Core.Bool.{Bool, true, false, cond}
use native.Mathlib.Omega.{arith}
use native.Mathlib.Decide.{dec_lt, ℕ_discrete}
use lib.Dec.{eqb}
use borrow.Author.Tests.{lt-ltb, le-ltb, eq-eqb, ne_eqb}
use Rattle.position.specs.Bits.{has, with, tried, faced}
use Rattle.position.specs.Layout.{count, unit_byte, hex, strength, marks, desk_byte, need, route, route_field, unit_size, nationality_field, kind_field, hex_field, strength_field, allowance_field, marks_field, role_field, turn_field, last_turn_field, force_field, phase_field, stage_field, owed_field, need_field, routes_field, route_count, route_hexes, routes_end, players_field, player, set_unit, set_desk, set_hex, set_marks, set_role}
use Rattle.position.specs.Board.{Units, Desk, board, units, desk, shown}
use Rattle.position.specs.Shape.{Shaped}
use Rattle.position.specs.Change.{turned}
use Rattle.position.specs.Effect.{upd, with_hex, with_marks, with_role, with_shown, with_units, with_desk}
use Rattle.position.proofs.Tables.{hex_in, route_in, route_past, route_over, set_unit_out}
use Rattle.position.proofs.Front.{Front, Behind, behind_bodies, behind_front, behind_trans, shaped_kept, count_kept, named_kept}
use Rattle.position.proofs.Bodies.{chart_same, results_same, ground_same}
use Rattle.position.proofs.Writes.{behind_unit, front_unit, front_desk, unit_unit, unit_same, desk_unit, unit_desk, desk_desk, desk_same}

-- a table after one number of it was written
pub upd_is : (n : ℕ) (f g : ℕ → ℕ) (u x : ℕ) → (u < n → g u ≡ x) → ((k : ℕ) → (u < n → k ≡ u → ⊥) → g k ≡ f k) → g ≡ upd n f u x
unfolding upd
upd_is n f g u x here else = fun_ext (λ k. at k (dec_lt u n) (ℕ_discrete k u))
  where
    at : (k : ℕ) → Dec (u < n) → Dec (k ≡ u) → g k ≡ upd n f u x k
    at k (yes l) (yes e) = ap g e ∙ here l ∙ simp (lt-ltb u n l, eq-eqb k u e)
    at k (yes l) (no d) = else k (λ m e. d e) ∙ simp (lt-ltb u n l, ne_eqb k u d)
    at k (no m) d = else k (λ l. absurd (m l)) ∙ simp (le-ltb u n (omega arith))

-- the bytes of units after a write to one of them
module _ {p : List ℕ} (s : Shaped p) (u f x : ℕ) (l : f < unit_size) where
  pub field_set : (λ (w : ℕ). unit_byte (set_unit p u f x) w f) ≡ upd (count p) (λ (w : ℕ). unit_byte p w f) u x
  field_set =
      upd_is (count p) (λ (w : ℕ). unit_byte p w f) (λ (w : ℕ). unit_byte (set_unit p u f x) w f) u x (unit_same p u f x l s) (λ k n. other k n (dec_lt u (count p)))
    where
      other : (k : ℕ) → (u < count p → k ≡ u → ⊥) → Dec (u < count p) → unit_byte (set_unit p u f x) k f ≡ unit_byte p k f
      other k n (yes m) = unit_unit p u f x l k f l (λ e h. n m e)
      other k n (no m) = ap (λ (q : List ℕ). unit_byte q k f) (set_unit_out p u f x (omega arith))

  pub field_kept : (g : ℕ) → g < unit_size → (g ≡ f → ⊥) → (w : ℕ) → unit_byte (set_unit p u f x) w g ≡ unit_byte p w g
  field_kept g m n w = unit_unit p u f x l w g m (λ e h. n h)

-- numbers that stand in more than one byte, from their bytes
pub hex_from : (p q : List ℕ) (w : ℕ) → count q ≡ count p → unit_byte q w hex_field ≡ unit_byte p w hex_field → unit_byte q w (hex_field + 1) ≡ unit_byte p w (hex_field + 1) → hex q w ≡ hex p w
unfolding hex
hex_from p q w e a b = rw (e, a, b)

pub shown_is : (p : List ℕ) (w : ℕ) → has tried (marks p w) ≡ true → shown p w ≡ strength p w
unfolding shown
shown_is p w e = ap (λ (t : Bool). cond t (strength p w) 0) e

pub shown_not : (p : List ℕ) (w : ℕ) → has tried (marks p w) ≡ false → shown p w ≡ 0
unfolding shown
shown_not p w e = ap (λ (t : Bool). cond t (strength p w) 0) e

pub shown_from : (p q : List ℕ) (w : ℕ) → has tried (marks q w) ≡ has tried (marks p w) → strength q w ≡ strength p w → shown q w ≡ shown p w
unfolding shown
shown_from p q w e a = ap₂ (λ (t : Bool) (x : ℕ). cond t x 0) e a

pub need_from : (p q : List ℕ) → desk_byte q need_field ≡ desk_byte p need_field → desk_byte q (need_field + 1) ≡ desk_byte p (need_field + 1) → need q ≡ need p
unfolding need
need_from p q a b = ap₂ (λ (x y : ℕ). x + 256 * y) a b

pub route_from : (p q : List ℕ) → ((k : ℕ) → routes_field ≤ k → k < routes_end → desk_byte q k ≡ desk_byte p k) → (r j : ℕ) → route q r j ≡ route p r j
route_from p q h r j = at (dec_lt r route_count) (dec_lt j route_hexes)
  where
    at : Dec (r < route_count) → Dec (j < route_hexes) → route q r j ≡ route p r j
    at (yes l) (yes m) =
        route_in q r j l m
        ∙ ap₂ (λ (a b : ℕ). a + 256 * b) (h (route_field r j) (omega arith) (omega arith)) (h (route_field r j + 1) (omega arith) (omega arith))
        ∙ sym (route_in p r j l m)
    at (yes l) (no m) = route_over q r j l (omega arith) ∙ sym (route_over p r j l (omega arith))
    at (no l) m = route_past q r j (omega arith) ∙ sym (route_past p r j (omega arith))

-- the players, which stand behind all that a call writes
pub player_from : {p q : List ℕ} → Front p q → ((k : ℕ) → players_field ≤ k → desk_byte q k ≡ desk_byte p k) → (f : ℕ) → player q f ≡ player p f
unfolding player
player_from s h f = rw (named_kept s, h (players_field + f) (omega arith)) refl

-- units and desk, from their bytes
pub units_from : (p q : List ℕ) → count q ≡ count p → ((w g : ℕ) → g < unit_size → unit_byte q w g ≡ unit_byte p w g) → units q ≡ units p
units_from p q e h =
    λ i.
    record {
      count = e i;
      counter = record { nationality = fun_ext (λ w. h w nationality_field (omega arith)) i; kind = fun_ext (λ w. h w kind_field (omega arith)) i; allowance = fun_ext (λ w. h w allowance_field (omega arith)) i };
      state = record { hex = fun_ext (λ w. hex_from p q w e (h w hex_field (omega arith)) (h w (hex_field + 1) (omega arith))) i; shown = fun_ext (λ w. shown_from p q w (ap (has tried) (h w marks_field (omega arith))) (h w strength_field (omega arith))) i; marks = fun_ext (λ w. h w marks_field (omega arith)) i; role = fun_ext (λ w. h w role_field (omega arith)) i };
    }

pub desk_from : (p q : List ℕ) → ((k : ℕ) → k < players_field → desk_byte q k ≡ desk_byte p k) → ((f : ℕ) → player q f ≡ player p f) → desk q ≡ desk p
desk_from p q h g =
    λ i.
    record {
      clock = record { turn = h turn_field (omega arith) i; force = h force_field (omega arith) i; phase = h phase_field (omega arith) i };
      last_turn = h last_turn_field (omega arith) i;
      battle = record { stage = h stage_field (omega arith) i; owed = h owed_field (omega arith) i; need = need_from p q (h need_field (omega arith)) (h (need_field + 1) (omega arith)) i };
      route = fun_ext (λ r. fun_ext (route_from p q (λ k _ l. h k (omega arith)) r)) i;
      player = fun_ext g i;
    }

-- the board, from its parts: a write behind the front leaves the rest
board_behind : {p q : List ℕ} {s : Units} {d : Desk} → Behind p q → units q ≡ s → desk q ≡ d → board q ≡ with_desk (with_units (board p) s) d
board_behind f e g =
    let b = behind_bodies f in
    λ i. record { chart = chart_same b i; results = results_same b i; map = ground_same b i; units = e i; desk = g i }

pub board_units : {p q : List ℕ} {s : Units} → Behind p q → units q ≡ s → desk q ≡ desk p → board q ≡ with_units (board p) s
board_units f e d = board_behind f e d

pub board_desk : {p q : List ℕ} {d : Desk} → Behind p q → units q ≡ units p → desk q ≡ d → board q ≡ with_desk (board p) d
board_desk f e g = board_behind f e g

-- a unit's role
module _ {p : List ℕ} (s : Shaped p) (u x : ℕ) where
  pub units_role : units (set_role p u x) ≡ with_role (units p) u x
  unfolding set_role
  units_role =
      let k = field_kept s u role_field x (omega arith) in
      let q = set_unit p u role_field x in
      let e = count_kept (front_unit p u role_field x) in
      λ i.
      record {
        count = e i;
        counter = record { nationality = fun_ext (k nationality_field (omega arith) (omega arith)) i; kind = fun_ext (k kind_field (omega arith) (omega arith)) i; allowance = fun_ext (k allowance_field (omega arith) (omega arith)) i };
        state = record { hex = fun_ext (λ w. hex_from p q w e (k hex_field (omega arith) (omega arith) w) (k (hex_field + 1) (omega arith) (omega arith) w)) i; shown = fun_ext (λ w. shown_from p q w (ap (has tried) (k marks_field (omega arith) (omega arith) w)) (k strength_field (omega arith) (omega arith) w)) i; marks = fun_ext (k marks_field (omega arith) (omega arith)) i; role = field_set s u role_field x (omega arith) i };
      }

  -- its marks, given what is then shown
  units_marks : (f : ℕ → ℕ) → ((w : ℕ) → shown (set_marks p u x) w ≡ f w) → units (set_marks p u x) ≡ record {
    count = count p;
    counter = record { nationality = (units p).counter.nationality; kind = (units p).counter.kind; allowance = (units p).counter.allowance };
    state = record { hex = hex p; shown = f; marks = upd (count p) (marks p) u x; role = (units p).state.role };
  }
  unfolding set_marks
  units_marks f h =
      let k = field_kept s u marks_field x (omega arith) in
      let q = set_unit p u marks_field x in
      let e = count_kept (front_unit p u marks_field x) in
      λ i.
      record {
        count = e i;
        counter = record { nationality = fun_ext (k nationality_field (omega arith) (omega arith)) i; kind = fun_ext (k kind_field (omega arith) (omega arith)) i; allowance = fun_ext (k allowance_field (omega arith) (omega arith)) i };
        state = record { hex = fun_ext (λ w. hex_from p q w e (k hex_field (omega arith) (omega arith) w) (k (hex_field + 1) (omega arith) (omega arith) w)) i; shown = fun_ext h i; marks = field_set s u marks_field x (omega arith) i; role = fun_ext (k role_field (omega arith) (omega arith)) i };
      }

-- a table after a write: there, and elsewhere
pub upd_there : (n : ℕ) (f : ℕ → ℕ) (u x : ℕ) → u < n → upd n f u x u ≡ x
unfolding upd
upd_there n f u x l = simp (lt-ltb u n l, eq-eqb u u refl)

pub upd_else : (n : ℕ) (f : ℕ → ℕ) (u x k : ℕ) → (u < n → k ≡ u → ⊥) → upd n f u x k ≡ f k
unfolding upd
upd_else n f u x k h = at (dec_lt u n) (ℕ_discrete k u)
  where
    at : Dec (u < n) → Dec (k ≡ u) → upd n f u x k ≡ f k
    at (yes l) (yes e) = absurd (h l e)
    at (yes l) (no d) = simp (lt-ltb u n l, ne_eqb k u d)
    at (no m) d = simp (le-ltb u n (omega arith))

-- what holds of the number written, if it is, and of the number that stood there
pub upd_case : (P : ℕ → Type 0) (n : ℕ) (f : ℕ → ℕ) (u x k : ℕ) → (u < n → k ≡ u → P x) → P (f k) → P (upd n f u x k)
upd_case P n f u x k a b = at (dec_lt u n) (ℕ_discrete k u)
  where
    at : Dec (u < n) → Dec (k ≡ u) → P (upd n f u x k)
    at (yes l) (yes e) = rw e (rw (upd_there n f u x l) (a l e))
    at (yes l) (no d) = rw (upd_else n f u x k (λ m e. d e)) b
    at (no m) d = rw (upd_else n f u x k (λ l. absurd (m l))) b

-- the face that marks show
pub faced_face : (old m : ℕ) → has tried (faced old m) ≡ has tried old
unfolding has faced
faced_face old m = let e : (m / 2 * 2 + old % 2) / 1 % 2 ≡ old / 1 % 2 = omega arith in ap (λ (k : ℕ). eqb k 1) e

pub turned_face : (m : ℕ) → has tried (with tried m) ≡ true
unfolding has with
turned_face m = let e : (m % 1 + 1 + m / (2 * 1) * (2 * 1)) / 1 % 2 ≡ 1 = omega arith in ap (λ (k : ℕ). eqb k 1) e

module _ {p : List ℕ} (s : Shaped p) (u : ℕ) where
  pub marks_set : (m w : ℕ) → marks (set_marks p u m) w ≡ upd (count p) (marks p) u m w
  unfolding set_marks
  marks_set m w = ap (λ (f : ℕ → ℕ). f w) (field_set s u marks_field m (omega arith))

  strength_set : (m w : ℕ) → strength (set_marks p u m) w ≡ strength p w
  unfolding set_marks
  strength_set m w = field_kept s u marks_field m (omega arith) strength_field (omega arith) (omega arith) w

  -- marks that show the same face leave what is shown
  pub units_faced : (m : ℕ) → has tried m ≡ has tried (marks p u) → units (set_marks p u m) ≡ with_marks (units p) u m
  units_faced m e =
      units_marks s u m (shown p)
      (λ w. shown_from p (set_marks p u m) w (ap (has tried) (marks_set m w) ∙ upd_case (λ (k : ℕ). has tried k ≡ has tried (marks p w)) (count p) (marks p) u m w (λ l g. e ∙ ap (λ (k : ℕ). has tried (marks p k)) (sym g)) refl)
      (strength_set m w))

  shown_else : (m w : ℕ) → (u < count p → w ≡ u → ⊥) → shown (set_marks p u m) w ≡ shown p w
  shown_else m w n =
      shown_from p (set_marks p u m) w (ap (has tried) (marks_set m w ∙ upd_else (count p) (marks p) u m w n)) (strength_set m w)

  -- a unit turned over shows its strength
  shown_turned : (w : ℕ) → Dec (u < count p) → Dec (w ≡ u) → shown (set_marks p u (with tried (marks p u))) w ≡ upd (count p) (shown p) u (strength p u) w
  shown_turned w (yes l) (yes e) =
      let m = with tried (marks p u) in
      rw e
      (shown_is (set_marks p u m) u (ap (has tried) (marks_set m u ∙ upd_there (count p) (marks p) u m l) ∙ turned_face (marks p u))
      ∙ strength_set m u
      ∙ sym (upd_there (count p) (shown p) u (strength p u) l))
  shown_turned w (yes l) (no d) =
      shown_else (with tried (marks p u)) w (λ k e. d e) ∙ sym (upd_else (count p) (shown p) u (strength p u) w (λ k e. d e))
  shown_turned w (no n) d =
      shown_else (with tried (marks p u)) w (λ l. absurd (n l)) ∙ sym (upd_else (count p) (shown p) u (strength p u) w (λ l. absurd (n l)))

  pub units_turned : units (turned p u) ≡ with_shown (units p) u (strength p u)
  unfolding turned
  units_turned =
      units_marks s u (with tried (marks p u)) (upd (count p) (shown p) u (strength p u))
      (λ w. shown_turned w (dec_lt u (count p)) (ℕ_discrete w u))

-- where a unit stands
module _ {p : List ℕ} (s : Shaped p) (u h : ℕ) where
  abbrev half : List ℕ
  half = set_unit p u hex_field (h % 256)

  half_shaped : Shaped half
  half_shaped = shaped_kept (front_unit p u hex_field (h % 256)) s

  byte_kept : (g : ℕ) → g < unit_size → (g ≡ hex_field → ⊥) → (g ≡ hex_field + 1 → ⊥) → (w : ℕ) → unit_byte (set_unit half u (hex_field + 1) (h / 256)) w g ≡ unit_byte p w g
  byte_kept g l m n w =
      field_kept half_shaped u (hex_field + 1) (h / 256) (omega arith) g l n w ∙ field_kept s u hex_field (h % 256) (omega arith) g l m w

  pub behind_hex : Behind p (set_hex p u h)
  unfolding set_hex
  behind_hex = behind_trans (behind_unit p u hex_field (h % 256)) (behind_unit half u (hex_field + 1) (h / 256))

  pub front_hex : Front p (set_hex p u h)
  front_hex = behind_front behind_hex

  hex_here : u < count p → hex (set_unit half u (hex_field + 1) (h / 256)) u ≡ h
  hex_here l =
      let q = set_unit half u (hex_field + 1) (h / 256) in
      let m = count_kept (front_unit p u hex_field (h % 256)) in
      let n = count_kept (front_unit half u (hex_field + 1) (h / 256)) in
      let low = field_kept half_shaped u (hex_field + 1) (h / 256) (omega arith) hex_field (omega arith) (omega arith) u ∙ unit_same p u hex_field (h % 256) (omega arith) s l in
      let high = unit_same half u (hex_field + 1) (h / 256) (omega arith) half_shaped (omega arith) in
      hex_in q u (omega arith) ∙ omega (arith, low, high)

  hex_else : (w : ℕ) → (u < count p → w ≡ u → ⊥) → hex (set_unit half u (hex_field + 1) (h / 256)) w ≡ hex p w
  hex_else w d = at (dec_lt u (count p))
    where
      at : Dec (u < count p) → hex (set_unit half u (hex_field + 1) (h / 256)) w ≡ hex p w
      at (yes l) =
          hex_from p (set_unit half u (hex_field + 1) (h / 256)) w (count_kept (front_unit half u (hex_field + 1) (h / 256)) ∙ count_kept (front_unit p u hex_field (h % 256)))
          (unit_unit half u (hex_field + 1) (h / 256) (omega arith) w hex_field (omega arith) (λ e g. d l e) ∙ unit_unit p u hex_field (h % 256) (omega arith) w hex_field (omega arith) (λ e g. d l e))
          (unit_unit half u (hex_field + 1) (h / 256) (omega arith) w (hex_field + 1) (omega arith) (λ e g. d l e) ∙ unit_unit p u hex_field (h % 256) (omega arith) w (hex_field + 1) (omega arith) (λ e g. d l e))
      at (no n) =
          ap (λ (q : List ℕ). hex q w)
          (set_unit_out half u (hex_field + 1) (h / 256) (omega (arith, count_kept (front_unit p u hex_field (h % 256)))) ∙ set_unit_out p u hex_field (h % 256) (omega arith))

  pub units_hex : units (set_hex p u h) ≡ with_hex (units p) u h
  unfolding set_hex
  units_hex =
      let k = byte_kept in
      let q = set_unit half u (hex_field + 1) (h / 256) in
      let e = count_kept (front_unit half u (hex_field + 1) (h / 256)) ∙ count_kept (front_unit p u hex_field (h % 256)) in
      λ i.
      record {
        count = e i;
        counter = record { nationality = fun_ext (k nationality_field (omega arith) (omega arith) (omega arith)) i; kind = fun_ext (k kind_field (omega arith) (omega arith) (omega arith)) i; allowance = fun_ext (k allowance_field (omega arith) (omega arith) (omega arith)) i };
        state = record {
          hex = upd_is (count p) (hex p) (hex q) u h hex_here hex_else i;
          shown = fun_ext
              (λ w.
              shown_from p q w (ap (has tried) (k marks_field (omega arith) (omega arith) (omega arith) w))
              (k strength_field (omega arith) (omega arith) (omega arith) w))
              i;
          marks = fun_ext (k marks_field (omega arith) (omega arith) (omega arith)) i;
          role = fun_ext (k role_field (omega arith) (omega arith) (omega arith)) i;
        };
      }

-- a unit's bytes leave the desk, and the desk's bytes leave the units
pub desk_behind : (p : List ℕ) (u f x : ℕ) → f < unit_size → desk (set_unit p u f x) ≡ desk p
desk_behind p u f x l =
    let h = desk_unit p u f x l in
    desk_from p (set_unit p u f x) (λ k _. h k) (player_from (front_unit p u f x) (λ k _. h k))

pub units_before : (p : List ℕ) (f x : ℕ) → units (set_desk p f x) ≡ units p
units_before p f x = units_from p (set_desk p f x) (count_kept (front_desk p f x)) (unit_desk p f x)

-- the desk's bytes after one was written
pub desk_at_lem : {p : List ℕ} → Shaped p → (f x : ℕ) → f < players_field → (k : ℕ) → desk_byte (set_desk p f x) k ≡ cond (eqb k f) x (desk_byte p k)
desk_at_lem {p} s f x l k = at (ℕ_discrete k f)
  where
    at : Dec (k ≡ f) → desk_byte (set_desk p f x) k ≡ cond (eqb k f) x (desk_byte p k)
    at (yes e) = ap (desk_byte (set_desk p f x)) e ∙ desk_same p f x s l ∙ simp (eq-eqb k f e)
    at (no n) = desk_desk p f x k n ∙ simp (ne_eqb k f n)
