-- What positions that look the same share, and that a change made to both keeps them so.
-- Assumes nothing.
use Prim.Native.Nat.{ℕ, ◌+◌, ◌<◌}
use mathlib.Core.Path.{◌≡◌, refl, sym, ap, fun_ext, ◌∙◌}
use mathlib.Core.List.{List}
use mathlib.Core.Bool.{Bool, true, false, cond}
use native.Mathlib.Omega.{arith}
use native.Mathlib.Decide.{dec_lt, ℕ_discrete}
use lib.ListN.{length, set, length-set, get_or-eq_default}
use lib.Seq.{get_or-set_same, get_or-set_other}
use Rattle.position.specs.Bits.{has, with, tried}
use Rattle.position.specs.Layout.{byte, unit_size, nationality_field, kind_field, hex_field, allowance_field, marks_field, role_field, count, desk_at, unit_at, unit_byte, strength_field, strength, marks, desk_byte, set_unit, set_desk, set_marks}
use Rattle.position.specs.Board.{board, shown}
use Rattle.position.specs.Shape.{Shaped}
use Rattle.position.specs.Change.{Change, makes, turned}
use Rattle.acceptance.specs.Alike.{Hidden, Same}
use Rattle.position.proofs.Tables.{set_unit_in, set_unit_out}
use Rattle.position.proofs.Bodies.{chart_same, results_same, ground_same}
use Rattle.position.proofs.Front.{Front, Behind, behind_bodies, behind_front, shaped_kept, count_kept, hexes_kept, unit_at_kept, desk_at_kept}
use Rattle.position.proofs.Writes.{front_unit, front_desk, unit_there, desk_there, unit_in, unit_unit, unit_desk}
use Rattle.position.proofs.Effects.{hex_from, player_from, desk_from, upd_case, marks_set}
use Rattle.position.proofs.Twins.{Twin, twin_makes}

-- what is the same in both
module _ {p q : List ℕ} (s : Same p q) where
  behind_same : Behind p q
  unfolding unit_at
  behind_same = record { long = s.long; before = λ i l. s.bytes i (λ h. let e = h.there in omega arith) }

  pub front_same : Front p q
  front_same = behind_front behind_same

  -- every number of a unit but its strength
  pub unit_alike : (w g : ℕ) → g < unit_size → (g ≡ strength_field → ⊥) → unit_byte q w g ≡ unit_byte p w g
  unfolding unit_at
  unit_alike w g l n =
      unit_there front_same.counts w g (λ m. s.bytes (unit_at p w + g) (λ h. let e = h.there in n (omega arith)))

  -- and a strength that is not hidden
  pub strength_alike : (w : ℕ) → (w < count p → has tried (marks p w) ≡ false → ⊥) → strength q w ≡ strength p w
  unfolding unit_at
  strength_alike w n =
      unit_there front_same.counts w strength_field
      (λ m. s.bytes (unit_at p w + strength_field) (λ h. n m (let e : h.unit ≡ w = one h in rw e at h.down)))
    where
      one : (h : Hidden p (unit_at p w + strength_field)) → h.unit ≡ w
      one h = omega (arith, h.there)

  pub marks_alike : (w : ℕ) → marks q w ≡ marks p w
  marks_alike w = unit_alike w marks_field (omega arith) (omega arith)

  shown_alike : (w : ℕ) → shown q w ≡ shown p w
  unfolding shown
  shown_alike w = ap (λ (m : ℕ). cond (has tried m) (strength q w) 0) (marks_alike w) ∙ at (has tried (marks p w)) refl
    where
      at : (t : Bool) → has tried (marks p w) ≡ t → cond t (strength q w) 0 ≡ cond t (strength p w) 0
      at true e = strength_alike w (λ l d. let z : ◌≡◌ {A = ℕ} 0 1 = cc in omega arith)
      at false e = refl

  desk_alike : (k : ℕ) → desk_byte q k ≡ desk_byte p k
  unfolding desk_at unit_at
  desk_alike k = desk_there front_same.counts k (s.bytes (desk_at p + k) (λ h. let e = h.there in let l = h.counted in omega arith))

  -- so a player sees one board
  pub board_alike : board q ≡ board p
  board_alike =
      let u = unit_alike in
      λ i.
      record {
        chart = chart_same (behind_bodies behind_same) i;
        results = results_same (behind_bodies behind_same) i;
        map = ground_same (behind_bodies behind_same) i;
        units =
            record {
              count = count_kept front_same i;
              counter = record { nationality = fun_ext (λ w. u w nationality_field (omega arith) (omega arith)) i; kind = fun_ext (λ w. u w kind_field (omega arith) (omega arith)) i; allowance = fun_ext (λ w. u w allowance_field (omega arith) (omega arith)) i };
              state = record { hex = fun_ext (λ w. hex_from p q w (count_kept front_same) (u w hex_field (omega arith) (omega arith)) (u w (hex_field + 1) (omega arith) (omega arith))) i; shown = fun_ext shown_alike i; marks = fun_ext marks_alike i; role = fun_ext (λ w. u w role_field (omega arith) (omega arith)) i };
            };
        desk = desk_from p q (λ k _. desk_alike k) (player_from front_same (λ k _. desk_alike k)) i;
      }

-- one byte written to both
set_both : (p q : List ℕ) (i x j : ℕ) → length q ≡ length p → ((j ≡ i → ⊥) → byte q j ≡ byte p j) → byte (set q i x) j ≡ byte (set p i x) j
set_both p q i x j l h = at (ℕ_discrete j i) (dec_lt i (length p))
  where
    at : Dec (j ≡ i) → Dec (i < length p) → byte (set q i x) j ≡ byte (set p i x) j
    at (no n) d = get_or-set_other q i j x 0 n ∙ h n ∙ sym (get_or-set_other p i j x 0 n)
    at (yes e) (yes m) = rw e (get_or-set_same q i x 0 (omega arith) ∙ sym (get_or-set_same p i x 0 m))
    at (yes e) (no m) =
        get_or-eq_default (set q i x) 0 (omega (arith, length-set q i x)) ∙ sym (get_or-eq_default (set p i x) 0 (omega (arith, length-set p i x)))

-- what is hidden stays so where the face stays as it is
hidden_kept : {p r : List ℕ} {i : ℕ} → Front p r → (h : Hidden p i) → has tried (marks r h.unit) ≡ has tried (marks p h.unit) → Hidden r i
hidden_kept f h e =
    record {
      unit = h.unit;
      counted = rw (count_kept f) h.counted;
      down = e ∙ h.down;
      there = h.there ∙ ap (λ (k : ℕ). k + strength_field) (sym (unit_at_kept f h.unit));
    }

module _ {p q : List ℕ} (s : Same p q) where
  -- one byte at one place, with every face as it was
  same_set : (i x : ℕ) → Front p (set p i x) → ((w : ℕ) → has tried (marks (set p i x) w) ≡ has tried (marks p w)) → Same (set p i x) (set q i x)
  same_set i x f h =
      record {
        long = length-set q i x ∙ s.long ∙ sym (length-set p i x);
        bytes = λ j n. set_both p q i x j s.long (λ d. s.bytes j (λ hid. n (hidden_kept f hid (h hid.unit))));
      }

  same_desk : (f x : ℕ) → Same (set_desk p f x) (set_desk q f x)
  unfolding set_desk
  same_desk f x =
      rw (desk_at_kept (front_same s))
      (same_set (desk_at p + f) x (front_desk p f x) (λ w. ap (has tried) (unit_desk p f x w marks_field (omega arith))))

  same_unit : (u f x : ℕ) → ((w : ℕ) → has tried (marks (set_unit p u f x) w) ≡ has tried (marks p w)) → Same (set_unit p u f x) (set_unit q u f x)
  same_unit u f x h = at (dec_lt u (count p))
    where
      at : Dec (u < count p) → Same (set_unit p u f x) (set_unit q u f x)
      at (yes l) =
          rw (set_unit_in q u f x (omega (arith, count_kept (front_same s))))
          (rw (unit_at_kept (front_same s) u)
          (rw (set_unit_in p u f x l)
          (same_set (unit_at p u + f) x (rw (set_unit_in p u f x l) at (front_unit p u f x)) (rw (set_unit_in p u f x l) at h))))
      at (no n) =
          rw (set_unit_out q u f x (omega (arith, count_kept (front_same s)))) (rw (set_unit_out p u f x (omega arith)) s)

  -- a number of a unit that is neither its marks nor its strength
  same_field : (u f x : ℕ) → f < unit_size → (f ≡ marks_field → ⊥) → Same (set_unit p u f x) (set_unit q u f x)
  same_field u f x l n = same_unit u f x (λ w. ap (has tried) (unit_unit p u f x l w marks_field (omega arith) (λ e g. n (sym g))))

  -- marks that show the face that the unit shows
  same_marks : Shaped p → (u m : ℕ) → has tried m ≡ has tried (marks p u) → Same (set_marks p u m) (set_marks q u m)
  unfolding set_marks
  same_marks a u m e =
      same_unit u marks_field m
      (λ w.
      ap (has tried) (marks_set a u m w)
      ∙ upd_case (λ (k : ℕ). has tried k ≡ has tried (marks p w)) (count p) (marks p) u m w (λ l g. e ∙ ap (λ (k : ℕ). has tried (marks p k)) (sym g)) refl)

-- a shaped position, and one that looks the same
record Paired (p q : List ℕ) : Type 0 where
  shaped : Shaped p
  same : Same p q

twin_same : Twin Paired
unfolding set_marks
twin_same =
    record {
      area = λ s. hexes_kept (front_same s.same);
      shows = λ s u. marks_alike s.same u;
      field =
          λ s u f x l n. record { shaped = shaped_kept (front_unit _ u f x) s.shaped; same = same_field s.same u f x l n };
      face =
          λ s u m e. record { shaped = shaped_kept (front_unit _ u marks_field m) s.shaped; same = same_marks s.same s.shaped u m e };
      desk = λ s f x _. record { shaped = shaped_kept (front_desk _ f x) s.shaped; same = same_desk s.same f x };
    }

-- the same changes to both keep them the same
pub same_makes : {p q : List ℕ} → Shaped p → Same p q → (xs : List Change) → Same (makes p xs) (makes q xs)
same_makes a s xs = (twin_makes twin_same (record { shaped = a; same = s }) xs).same

-- a unit of one strength in both turned over in both
pub same_turned : {p q : List ℕ} → Shaped p → Same p q → (u : ℕ) → strength q u ≡ strength p u → Same (turned p u) (turned q u)
unfolding turned set_marks
same_turned {p} {q} a s u e = rw (marks_alike s u) (at (dec_lt u (count p)))
  where
    seen : (i : ℕ) → u < count p → (Hidden (set p (unit_at p u + marks_field) (with tried (marks p u))) i → ⊥) → Dec (i ≡ unit_at p u + strength_field) → byte q i ≡ byte p i
    seen i l n (yes d) =
        rw d
        (ap (λ (k : ℕ). byte q (k + strength_field)) (sym (unit_at_kept (front_same s) u))
        ∙ sym (unit_in q u strength_field (omega (arith, count_kept (front_same s))))
        ∙ e
        ∙ unit_in p u strength_field l)
    seen i l n (no d) = s.bytes i (λ h. n (hidden_kept (rw (set_unit_in p u marks_field (with tried (marks p u)) l) at (front_unit p u marks_field (with tried (marks p u)))) h (still h)))
      where
        still : (h : Hidden p i) → has tried (marks (set p (unit_at p u + marks_field) (with tried (marks p u))) h.unit) ≡ has tried (marks p h.unit)
        still h =
            rw (set_unit_in p u marks_field (with tried (marks p u)) l) at
            (ap (has tried) (unit_unit p u marks_field (with tried (marks p u)) (omega arith) h.unit marks_field (omega arith) (λ w g. d (h.there ∙ ap (λ (k : ℕ). unit_at p k + strength_field) w))))

    at : Dec (u < count p) → Same (set_unit p u marks_field (with tried (marks p u))) (set_unit q u marks_field (with tried (marks p u)))
    at (yes l) =
        let x = with tried (marks p u) in
        rw (set_unit_in q u marks_field x (omega (arith, count_kept (front_same s))))
        (rw (unit_at_kept (front_same s) u)
        (rw (set_unit_in p u marks_field x l)
        (record {
          long = length-set q _ _ ∙ s.long ∙ sym (length-set p _ _);
          bytes = λ i n. set_both p q (unit_at p u + marks_field) x i s.long (λ _. seen i l n (ℕ_discrete i (unit_at p u + strength_field)));
        })))
    at (no n) =
        let x = with tried (marks p u) in
        rw (set_unit_out q u marks_field x (omega (arith, count_kept (front_same s)))) (rw (set_unit_out p u marks_field x (omega arith)) s)
