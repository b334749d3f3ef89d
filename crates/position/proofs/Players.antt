-- A desk of the old length and the same desk with the players named that it is read with: one board, and each change made to both.
-- Assumes nothing.
use Prim.Native.Nat.{ℕ, zero, suc, ◌+◌, ◌≤◌, ◌<◌}
use mathlib.Core.Path.{◌≡◌, refl, sym, ap, ap₂, ◌∙◌}
use mathlib.Core.List.{List, [], ◌∷◌, ◌++◌}
use mathlib.Core.Bool.{Bool, true, false, not, ◌&&◌}
use native.Mathlib.Omega.{arith}
use native.Mathlib.Decide.{dec_lt}
use lib.ListN.{length, set, length-set, length-append, get_or-append}
use lib.Seq.{get_or-set_same, get_or-set_other, get_or-append-add, set-append_left, set_comm}
use lib.Dec.{eqb}
use borrow.Author.Tests.{eq-eqb, ne_eqb}
use Rattle.position.specs.Bits.{with, tried}
use Rattle.position.specs.Layout.{byte, word, desk_body, extent_at, units_head, unit_size, marks_field, forces, chart_at, extent, map_at, hexes, units_at, count, players_field, players_named, desk_at, unit_at, unit_byte, strength_field, strength, marks, desk_byte, player, with_players, set_unit, set_desk, set_marks}
use Rattle.position.specs.Board.{board, enemy, neutral}
use Rattle.position.specs.Shape.{Shaped}
use Rattle.position.specs.Change.{turned}
use Rattle.position.proofs.Tables.{player_in, player_out, set_unit_in, set_unit_out}
use Rattle.position.proofs.Counts.{Counts, hexes_same, desk_at_same, unit_at_same, shaped_same}
use Rattle.position.proofs.Bodies.{Bodies, bodies_counts, chart_same, results_same, ground_same}
use Rattle.position.proofs.Front.{Front, shaped_kept, extent_kept}
use Rattle.position.proofs.Writes.{unit_there, desk_there, front_unit, front_desk}
use Rattle.position.proofs.Effects.{units_from, desk_from}
use Rattle.position.proofs.Twins.{Twin}

-- the bytes of the longer position
module _ (p : List ℕ) where
  pub with_length : length (with_players p) ≡ length p + forces
  unfolding with_players
  with_length = length-append (set p (extent_at desk_body) (players_field + forces)) (0 ∷ 1 ∷ 2 ∷ 3 ∷ []) ∙ omega (arith, length-set p (extent_at desk_body) (players_field + forces))

  with_byte : (i : ℕ) → i < length p → (i ≡ extent_at desk_body → ⊥) → byte (with_players p) i ≡ byte p i
  unfolding with_players
  with_byte i l n =
      get_or-append (set p (extent_at desk_body) (players_field + forces)) (0 ∷ 1 ∷ 2 ∷ 3 ∷ []) 0 i (omega (arith, length-set p (extent_at desk_body) (players_field + forces))) ∙ get_or-set_other p (extent_at desk_body) i (players_field + forces) 0 n

  with_entry : extent_at desk_body < length p → byte (with_players p) (extent_at desk_body) ≡ players_field + forces
  unfolding with_players
  with_entry l =
      get_or-append (set p (extent_at desk_body) (players_field + forces)) (0 ∷ 1 ∷ 2 ∷ 3 ∷ []) 0 (extent_at desk_body) (omega (arith, length-set p (extent_at desk_body) (players_field + forces)))
      ∙ get_or-set_same p (extent_at desk_body) (players_field + forces) 0 l

  with_tail : (f : ℕ) → byte (with_players p) (length p + f) ≡ byte (0 ∷ 1 ∷ 2 ∷ 3 ∷ []) f
  unfolding with_players
  with_tail f =
      ap (λ (n : ℕ). byte (set p (extent_at desk_body) (players_field + forces) ++ (0 ∷ 1 ∷ 2 ∷ 3 ∷ [])) (n + f)) (sym (length-set p (extent_at desk_body) (players_field + forces)))
      ∙ get_or-append-add (set p (extent_at desk_body) (players_field + forces)) (0 ∷ 1 ∷ 2 ∷ 3 ∷ []) f 0

-- the four players by name
spelled : (f : ℕ) → f < forces → byte (0 ∷ 1 ∷ 2 ∷ 3 ∷ []) f ≡ f
spelled zero l = refl
spelled (suc zero) l = refl
spelled (suc (suc zero)) l = refl
spelled (suc (suc (suc zero))) l = refl
spelled (suc (suc (suc (suc f)))) l = absurd (omega arith)

-- A desk that names no players has four: every other force is Enemy, and none is neutral.
module _ (p : List ℕ) (none : players_named p ≡ 0) where
  own_player : (f : ℕ) → player p f ≡ f
  own_player f = player_out p f (omega (arith, none))

  pub none_neutral : (f g : ℕ) → neutral (board p) f g ≡ false
  unfolding neutral
  none_neutral f g = ap₂ (λ (x y : ℕ). not (eqb f g) && eqb x y) (own_player f) (own_player g) ∙ not_and (eqb f g)
    where
      not_and : (t : Bool) → (not t && t) ≡ false
      not_and true = refl
      not_and false = refl

-- what the desk's length says
module _ (p : List ℕ) (short : extent p desk_body ≡ players_field) where
  none_named : players_named p ≡ 0
  unfolding players_named
  none_named = simp (ne_eqb (extent p desk_body) (players_field + forces) (λ e. omega arith))

  long_said : chart_at ≤ length p → extent (with_players p) desk_body ≡ players_field + forces
  unfolding extent word
  long_said l =
      let e = with_byte p (extent_at desk_body + 1) (omega arith) (λ z. omega arith) in
      let h = with_entry p (omega arith) in
      let s = short in
      omega (arith, e, h, s)

  all_named : chart_at ≤ length p → players_named (with_players p) ≡ forces
  unfolding players_named
  all_named l = simp (eq-eqb (extent (with_players p) desk_body) (players_field + forces) (long_said l))

-- the same bodies before the units' records, both ways
bodies_with : (p : List ℕ) → units_at p + units_head ≤ length p → Bodies p (with_players p)
unfolding units_at map_at
bodies_with p l =
    record {
      contents = λ i m. with_byte p i (omega arith) (λ e. omega arith);
      same = λ i m n. with_byte p i (omega arith) (λ e. omega arith);
    }

bodies_without : (p : List ℕ) → units_at (with_players p) + units_head ≤ length p → Bodies (with_players p) p
unfolding units_at map_at
bodies_without p l =
    record {
      contents = λ i m. sym (with_byte p i (omega arith) (λ e. omega arith));
      same = λ i m n. sym (with_byte p i (omega arith) (λ e. omega arith));
    }

-- a position whose bodies lie as they should, on a desk of the old length
pub record Old (p : List ℕ) : Type 0 where
  pub shaped : Shaped p
  pub short : extent p desk_body ≡ players_field

pub old_kept : {p q : List ℕ} → Front p q → Old p → Old q
old_kept f o = record { shaped = shaped_kept f o.shaped; short = extent_kept f ∙ o.short }

module _ {p : List ℕ} (o : Old p) where
  -- where it ends
  ends : length p ≡ desk_at p + players_field
  ends = omega (arith, o.shaped.whole, none_named p o.short)

  long : chart_at ≤ length p
  unfolding desk_at units_at map_at
  long = omega (arith, ends)

  bodies : Bodies p (with_players p)
  unfolding desk_at
  bodies = bodies_with p (omega (arith, ends))

  counts : Counts p (with_players p)
  counts = bodies_counts bodies

  pub shaped_with : Shaped (with_players p)
  shaped_with =
      shaped_same counts bodies.contents (omega (arith, long_said p o.short long, all_named p o.short long))
      (omega (arith, with_length p, ends, desk_at_same counts, all_named p o.short long))
      o.shaped

  unit_byte_lem : (w g : ℕ) → g < unit_size → unit_byte (with_players p) w g ≡ unit_byte p w g
  unfolding unit_at desk_at units_at map_at
  unit_byte_lem w g l = unit_there counts w g (λ m. with_byte p (unit_at p w + g) (omega (arith, ends)) (λ e. omega arith))

  pub strength_with : (w : ℕ) → strength (with_players p) w ≡ strength p w
  strength_with w = unit_byte_lem w strength_field (omega arith)

  desk_byte_lem : (k : ℕ) → k < players_field → desk_byte (with_players p) k ≡ desk_byte p k
  unfolding desk_at units_at map_at
  desk_byte_lem k l = desk_there counts k (with_byte p (desk_at p + k) (omega (arith, ends)) (λ e. omega arith))

  -- the players named are those that the old desk is read with
  player_with : (f : ℕ) → player (with_players p) f ≡ f
  unfolding desk_byte
  player_with f = at (dec_lt f forces)
    where
      n : players_named (with_players p) ≡ forces
      n = all_named p o.short long

      at : Dec (f < forces) → player (with_players p) f ≡ f
      at (yes l) =
          player_in (with_players p) f (omega (arith, n))
          ∙ ap (byte (with_players p)) (omega (arith, desk_at_same counts, ends))
          ∙ with_tail p f
          ∙ spelled f l
      at (no m) = player_out (with_players p) f (omega (arith, n))

  -- so there is one board
  pub board_with : board (with_players p) ≡ board p
  board_with =
      let q = with_players p in
      λ i.
      record {
        chart = chart_same bodies i;
        results = results_same bodies i;
        map = ground_same bodies i;
        units = units_from p q counts.count unit_byte_lem i;
        desk = desk_from p q desk_byte_lem (λ f. player_with f ∙ sym (own_player p (none_named p o.short) f)) i;
      }

  -- and a byte written to one is written to the other
  with_set : (i x : ℕ) → i < length p → (i ≡ extent_at desk_body → ⊥) → set (with_players p) i x ≡ with_players (set p i x)
  unfolding with_players
  with_set i x l n =
      set-append_left (set p (extent_at desk_body) (players_field + forces)) (0 ∷ 1 ∷ 2 ∷ 3 ∷ []) i x (omega (arith, length-set p (extent_at desk_body) (players_field + forces)))
      ∙ ap (λ (r : List ℕ). r ++ (0 ∷ 1 ∷ 2 ∷ 3 ∷ [])) (set_comm p (extent_at desk_body) i (players_field + forces) x (λ e. n (sym e)))

  unit_with : (u f x : ℕ) → f < unit_size → set_unit (with_players p) u f x ≡ with_players (set_unit p u f x)
  unfolding unit_at desk_at units_at map_at
  unit_with u f x l = at (dec_lt u (count p))
    where
      at : Dec (u < count p) → set_unit (with_players p) u f x ≡ with_players (set_unit p u f x)
      at (yes m) =
          set_unit_in (with_players p) u f x (omega (arith, counts.count))
          ∙ ap (λ (i : ℕ). set (with_players p) (i + f) x) (unit_at_same counts u)
          ∙ with_set (unit_at p u + f) x (omega (arith, ends)) (λ e. omega arith)
          ∙ ap with_players (sym (set_unit_in p u f x m))
      at (no m) =
          set_unit_out (with_players p) u f x (omega (arith, counts.count)) ∙ ap with_players (sym (set_unit_out p u f x (omega arith)))

  desk_with : (f x : ℕ) → f < players_field → set_desk (with_players p) f x ≡ with_players (set_desk p f x)
  unfolding set_desk desk_at units_at map_at
  desk_with f x l =
      ap (λ (i : ℕ). set (with_players p) (i + f) x) (desk_at_same counts)
      ∙ with_set (desk_at p + f) x (omega (arith, ends)) (λ e. omega arith)

-- a longer position whose bodies lie as they should comes from one whose do
pub shaped_without : (p : List ℕ) → extent p desk_body ≡ players_field → Shaped (with_players p) → Shaped p
unfolding desk_at units_at map_at
shaped_without p short s =
    let b = bodies_without p (omega (arith, s.whole, with_length p)) in
    let c = bodies_counts b in
    let n = all_named p short (omega (arith, s.whole, with_length p)) in
    let d = desk_at_same c in
    shaped_same c b.contents (omega (arith, short, none_named p short))
    (omega (arith, s.whole, with_length p, n, d, none_named p short))
    s

-- q is p with the players named
pub record Lengthened (p q : List ℕ) : Type 0 where
  pub old : Old p
  pub is : q ≡ with_players p

written : {p q : List ℕ} → Lengthened p q → (u f x : ℕ) → f < unit_size → Lengthened (set_unit p u f x) (set_unit q u f x)
written s u f x l =
    record {
      old = old_kept (front_unit _ u f x) s.old;
      is = ap (λ (r : List ℕ). set_unit r u f x) s.is ∙ unit_with s.old u f x l;
    }

pub twin_players : Twin Lengthened
unfolding set_marks
twin_players =
    record {
      area = λ s. ap hexes s.is ∙ hexes_same (counts s.old);
      shows = λ s u. ap (λ (r : List ℕ). marks r u) s.is ∙ unit_byte_lem s.old u marks_field (omega arith);
      field = λ s u f x l _. written s u f x l;
      face = λ s u m _. written s u marks_field m (omega arith);
      desk =
          λ s f x l.
          record {
            old = old_kept (front_desk _ f x) s.old;
            is = ap (λ (r : List ℕ). set_desk r f x) s.is ∙ desk_with s.old f x l;
          };
    }

-- a unit turned over in both
pub turned_with : {p q : List ℕ} → Lengthened p q → (u : ℕ) → Lengthened (turned p u) (turned q u)
unfolding turned set_marks
turned_with {p} {q} s u = rw (twin_players.shows s u) (written s u marks_field (with tried (marks p u)) (omega arith))

-- who is Enemy and who neutral on a desk of the old length
module _ (p : List ℕ) (short : extent p desk_body ≡ players_field) (f g : ℕ) where
  pub old_enemy : enemy (board p) f g ≡ not (eqb f g)
  unfolding enemy
  old_enemy = let own = own_player p (none_named p short) in ap₂ (λ (x y : ℕ). not (eqb x y)) (own f) (own g)

  pub old_neutral : neutral (board p) f g ≡ false
  old_neutral = none_neutral p (none_named p short) f g
