-- Laws of marks: the places in which a chain may end.
-- Assumes nothing.
use Rattle.std.specs.Prelude.{Option, Some, None}
use Prim.Native.Nat.{ℕ, zero, suc, ◌+◌, ◌-◌, ◌/◌, ◌%◌, ◌≤◌, ◌<◌}
use mathlib.Core.Path.{◌≡◌, refl, sym, ap, subst, ◌∙◌}
use mathlib.Core.Bool.{Bool, true, false, ◌&&◌, ◌||◌, and-false, and-true, or-false, or_assoc}
use mathlib.Core.List.{List, ◌∷◌}
use native.Mathlib.Omega.{arith}
use native.Mathlib.Decide.{dec_le}
use lib.Dec.{eqb}
use borrow.Author.Tests.{eq-eqb, ne_eqb, le-leb, lt-leb, eqb-true}
use Rattle.position.specs.Bits.{has}
use Rattle.position.specs.Tally.{any}
use Rattle.position.specs.Ground.{is_at}
use Rattle.position.proofs.Tallies.{not_both, both_yes, same_or, either, any_step, any_zero, any_some, any_never, any_same}
use Rattle.chains.specs.Chain.{Ways, Stands, rests, yields, leads_to, leads, has_rest}
use Rattle.chains.specs.Serves.{ends_in}
use Rattle.plot.specs.Plot.{places, next_in}
use Rattle.plot.specs.Ends.{span, bit_of, mark_in, MarkSet, Close, marked, Marks, rests_beside, end_marked, Blank}
use Rattle.plot.proofs.Marking.{has_none}
use Rattle.plot.proofs.Plots.{next_below, next_near}

-- a place is close to itself; one that is close is so by more steps; and one step further
pub close_self : (x : ℕ) → x < places → Close x x 0
close_self x l = record { below = l; after = omega arith; before = omega arith }

pub close_more : {x y m : ℕ} (n : ℕ) → m ≤ n → Close x y m → Close x y n
close_more n l c = record { below = c.below; after = omega (arith, c.after); before = omega (arith, c.before) }

pub close_step : (l : List ℕ) (i d z : ℕ) {x n : ℕ} → next_in l i d ≡ Some z → Close x i n → Close x z (n + 1)
close_step l i d z e c =
    let n = next_near l i d z e in
    record { below = next_below l i d z e; after = omega (arith, c.after); before = omega (arith, c.before) }

-- whether a place is marked, where it has a bit
module _ (l : List ℕ) (x y : ℕ) where
  pub end_before : y + span < x → end_marked l x y ≡ false
  unfolding end_marked
  end_before p = simp (lt-leb x (y + span) p)

  pub end_after : x + span < y → end_marked l x y ≡ false
  unfolding end_marked
  end_after p = simp (lt-leb y (x + span) p, and-false)

  pub end_in : x ≤ y + span → y ≤ x + span → end_marked l x y ≡ marked l x y
  unfolding end_marked
  end_in p q = simp (le-leb x (y + span) p, le-leb y (x + span) q)

  pub end_read : (r : Bool) → x ≤ y + span → y ≤ x + span → r ≡ mark_in l (span + y - x) → r ≡ end_marked l x y
  unfolding marked
  end_read r p q e = e ∙ sym (end_in p q)

module _ {x : ℕ} where
  -- nothing is marked, the same is marked by another test, and more is marked
  pub marks_none : {t : ℕ → Bool} {l : List ℕ} → ((y : ℕ) → Close x y 3 → t y ≡ false) → Marks x t l l
  marks_none {t} {l} f = record { long = refl; each = λ y c. sym (ap (λ (b : Bool). b || marked l x y) (f y c)) }

  pub marks_as : {t u : ℕ → Bool} {l m : List ℕ} → ((y : ℕ) → Close x y 3 → t y ≡ u y) → Marks x t l m → Marks x u l m
  marks_as {t} {u} {l} {m} f a = record { long = a.long; each = λ y c. a.each y c ∙ ap (λ (b : Bool). b || marked l x y) (f y c) }

  pub marks_left :
      (next : Ways) (s : Stands) (used : List ℕ) (h : ℕ) {k n : ℕ} {l m : List ℕ} → k ≡ n → Marks x (ends_in next s used k h) l m
      → Marks x (ends_in next s used n h) l m
  marks_left next s used h {k} {n} {l} {m} e a = subst (λ (i : ℕ). Marks x (ends_in next s used i h) l m) e a

  -- place z is marked
  pub marks_one : (z : ℕ) (l m : List ℕ) → Close x z 3 → MarkSet (span + z - x) l m → Marks x (eqb z) l m
  unfolding marked
  marks_one z l m k e = record {
    long = e.long;
    each = λ y c.
        same_or z y
        (λ q. simp (eq-eqb z y q) (rw (sym q) e.there))
        (λ n. simp (ne_eqb z y n) (e.others (span + y - x) (λ p. n (omega (arith, k.after, k.before, c.after, c.before)))));
  }

-- the tests of the first directions together: a test for each, and how many
unfoldable pub up_to : (ℕ → ℕ → Bool) → ℕ → ℕ → Bool
up_to a n y = any (λ d. a d y) n

module _ {x : ℕ} (a : ℕ → ℕ → Bool) where
  pub upto_none : {l : List ℕ} → Marks x (up_to a 0) l l
  unfolding up_to
  upto_none = marks_none (λ y c. any_zero (λ d. a d y))

  pub upto_more : {d : ℕ} {l m n : List ℕ} → Marks x (up_to a d) l m → Marks x (a d) m n → Marks x (up_to a (d + 1)) l n
  unfolding up_to
  upto_more {d} {l} {m} {n} p q = record {
    long = q.long ∙ p.long;
    each = λ y c.
        q.each y c
        ∙ ap (λ (b : Bool). a d y || b) (p.each y c)
        ∙ sym (or_assoc (a d y) (up_to a d y) (marked l x y))
        ∙ ap (λ (b : Bool). b || marked l x y) (sym (any_step (λ e. a e y) d));
  }

  pub upto_skip : {d : ℕ} {l m : List ℕ} → Marks x (up_to a d) l m → ((y : ℕ) → a d y ≡ false) → Marks x (up_to a (d + 1)) l m
  upto_skip p f = upto_more p (marks_none (λ y c. f y))

  pub upto_all : {t : ℕ → Bool} {d : ℕ} {l m : List ℕ} → d ≤ 6 → 6 ≤ d → ((y : ℕ) → up_to a 6 y ≡ t y) → Marks x (up_to a d) l m → Marks x t l m
  upto_all {t} {d} {l} {m} p q f k =
      let e : d ≡ 6 = omega arith in
      marks_as (λ y c. f y) (subst (λ (n : ℕ). Marks x (up_to a n) l m) e k)

-- direction d leads from place h to place y, into which its stack may go
unfoldable pub rest_at : Ways → Stands → List ℕ → ℕ → ℕ → ℕ → Bool
rest_at next s used h d y = is_at (next h d) y && rests s used y

-- or by direction d a stack is pushed on, and the chain ends in place y
unfoldable pub end_from : Ways → Stands → List ℕ → ℕ → ℕ → ℕ → Bool
end_from next s used left y z = yields s used z && ends_in next s used left z y

unfoldable pub end_via : Ways → Stands → List ℕ → ℕ → ℕ → ℕ → ℕ → Bool
end_via next s used left h d y = leads_to (end_from next s used left y) (next h d)

-- direction d leads from place h to one into which its stack may go
unfoldable pub rest_way : Ways → Stands → List ℕ → ℕ → ℕ → Bool
rest_way next s used h d = leads_to (rests s used) (next h d)

module _ (next : Ways) (s : Stands) (used : List ℕ) (h d : ℕ) where
  pub way_off : next h d ≡ None → rest_way next s used h d ≡ false
  unfolding rest_way leads_to
  way_off e = simp e

  pub way_at : (z : ℕ) → next h d ≡ Some z → rest_way next s used h d ≡ rests s used z
  unfolding rest_way leads_to
  way_at z e = simp e

  pub rest_off : next h d ≡ None → (y : ℕ) → rest_at next s used h d y ≡ false
  unfolding rest_at is_at
  rest_off e y = simp e

  pub rest-at : (z : ℕ) → next h d ≡ Some z → (y : ℕ) → rest_at next s used h d y ≡ (eqb z y && rests s used y)
  unfolding rest_at is_at
  rest-at z e y = simp e

  pub rest_not : (z : ℕ) → next h d ≡ Some z → rests s used z ≡ false → (y : ℕ) → rest_at next s used h d y ≡ false
  rest_not z e f y =
      rest-at z e y
      ∙ same_or z y
      (λ q. ap (λ (b : Bool). eqb z y && b) (ap (rests s used) (sym q) ∙ f) ∙ and-false (eqb z y))
      (λ n. ap (λ (b : Bool). b && rests s used y) (ne_eqb z y n))

  pub rest_yes : (z : ℕ) → next h d ≡ Some z → rests s used z ≡ true → (y : ℕ) → eqb z y ≡ rest_at next s used h d y
  rest_yes z e f y =
      same_or z y
      (λ q. sym (rest-at z e y ∙ ap (λ (b : Bool). eqb z y && b) (ap (rests s used) (sym q) ∙ f) ∙ and-true (eqb z y)))
      (λ n. ne_eqb z y n ∙ sym (rest-at z e y ∙ ap (λ (b : Bool). b && rests s used y) (ne_eqb z y n)))

  pub via_off : (left : ℕ) → next h d ≡ None → (y : ℕ) → end_via next s used left h d y ≡ false
  unfolding end_via leads_to
  via_off left e y = simp e

  pub via_at : (left z : ℕ) → next h d ≡ Some z → (y : ℕ) → end_via next s used left h d y ≡ (yields s used z && ends_in next s used left z y)
  unfolding end_via leads_to end_from
  via_at left z e y = simp e

-- all directions
pub way_all : (next : Ways) (s : Stands) (used : List ℕ) (h : ℕ) → has_rest next s used h ≡ any (rest_way next s used h) 6
unfolding has_rest rest_way
way_all next s used h = refl

pub rest_all_lem : (next : Ways) (s : Stands) (used : List ℕ) (h y : ℕ) → up_to (rest_at next s used h) 6 y ≡ rests_beside next s used h y
unfolding up_to rest_at rests_beside leads
rest_all_lem next s used h y =
    either (rests s used y) (λ e. simp (e, and-true)) (λ e. simp (e, and-false) (any_never _ 6 (λ k l. refl)))

-- after a direction more
module _ {x : ℕ} (next : Ways) (s : Stands) (used : List ℕ) (h d z : ℕ) (e : next h d ≡ Some z) {l m n : List ℕ} where
  pub upto_rest :
      Marks x (up_to (rest_at next s used h) d) l m → rests s used z ≡ true → Close x z 3 → MarkSet (span + z - x) m n
      → Marks x (up_to (rest_at next s used h) (d + 1)) l n
  upto_rest p r c b =
      upto_more (rest_at next s used h) p (marks_as (λ y k. rest_yes next s used h d z e r y) (marks_one z m n c b))

  pub upto_stay :
      Marks x (up_to (rest_at next s used h) d) l m → rests s used z ≡ false → n ≡ m → Marks x (up_to (rest_at next s used h) (d + 1)) l n
  upto_stay p r q =
      subst (Marks x (up_to (rest_at next s used h) (d + 1)) l) (sym q) (upto_skip (rest_at next s used h) p (rest_not next s used h d z e r))

  pub upto_ends :
      (left : ℕ) (trail : List ℕ) → Marks x (up_to (end_via next s used left h) d) l m → yields s used z ≡ true → trail ≡ used
      → Marks x (ends_in next s trail left z) m n → Marks x (up_to (end_via next s used left h) (d + 1)) l n
  upto_ends left trail p r f a =
      upto_more (end_via next s used left h) p
      (marks_as
      (λ y k.
      ap (λ (us : List ℕ). ends_in next s us left z y) f
      ∙ sym (via_at next s used h d left z e y ∙ ap (λ (b : Bool). b && ends_in next s used left z y) r))
      a)

  pub upto_held :
      (left : ℕ) → Marks x (up_to (end_via next s used left h) d) l m → yields s used z ≡ false → n ≡ m
      → Marks x (up_to (end_via next s used left h) (d + 1)) l n
  upto_held left p r q =
      subst (Marks x (up_to (end_via next s used left h) (d + 1)) l) (sym q)
      (upto_skip (end_via next s used left h) p
      (λ y. via_at next s used h d left z e y ∙ ap (λ (b : Bool). b && ends_in next s used left z y) r))

-- a chain from a stack that has a vacant place beside it, and from one that has none
module _ (next : Ways) (s : Stands) (used : List ℕ) (left h y : ℕ) where
  by_rest : has_rest next s (h ∷ used) h ≡ true → rests_beside next s (h ∷ used) h y ≡ ends_in next s used (suc left) h y
  unfolding ends_in rests_beside
  by_rest e = simp e

  by_push : has_rest next s (h ∷ used) h ≡ false → up_to (end_via next s (h ∷ used) left h) 6 y ≡ ends_in next s used (suc left) h y
  unfolding ends_in up_to end_via end_from
  by_push e = simp e

  none_left : ends_in next s used 0 h y ≡ false
  unfolding ends_in
  none_left = refl

module _ (next : Ways) (s : Stands) (used : List ℕ) (left h y : ℕ) (p : 1 ≤ left) where
  one_more : suc (left - 1) ≡ left
  one_more = omega arith

  pub ends_rest : has_rest next s (h ∷ used) h ≡ true → rests_beside next s (h ∷ used) h y ≡ ends_in next s used left h y
  ends_rest e = by_rest next s used (left - 1) h y e ∙ ap (λ (k : ℕ). ends_in next s used k h y) one_more

  pub ends_via :
      has_rest next s (h ∷ used) h ≡ false → up_to (end_via next s (h ∷ used) (left - 1) h) 6 y ≡ ends_in next s used left h y
  ends_via e = by_push next s used (left - 1) h y e ∙ ap (λ (k : ℕ). ends_in next s used k h y) one_more

  pub ends_never : left < 2 → has_rest next s (h ∷ used) h ≡ false → ends_in next s used left h y ≡ false
  unfolding up_to
  ends_never q e = sym (ends_via e) ∙ any_never (λ d. end_via next s (h ∷ used) (left - 1) h d y) 6 (λ d l. off d (next h d) refl)
    where
      off : (d : ℕ) (b : Option ℕ) → next h d ≡ b → end_via next s (h ∷ used) (left - 1) h d y ≡ false
      off d None k = via_off next s (h ∷ used) h d (left - 1) k y
      off d (Some z) k =
          let z0 : left - 1 ≡ 0 = omega arith in
          via_at next s (h ∷ used) h d (left - 1) z k y
          ∙ ap (λ (b : Bool). yields s (h ∷ used) z && b) (ap (λ (n : ℕ). ends_in next s (h ∷ used) n z y) z0 ∙ none_left next s (h ∷ used) 0 z y)
          ∙ and-false (yields s (h ∷ used) z)

-- a direction that leads to a place which passes the test
pub record Led (next : Ways) (t : ℕ → Bool) (h : ℕ) : Type 0 where
  pub dir : ℕ
  pub to : ℕ
  pub leads : next h dir ≡ Some to
  pub passes : t to ≡ true

led_at : (next : Ways) (t : ℕ → Bool) (h d : ℕ) (b : Option ℕ) → next h d ≡ b → leads_to t b ≡ true → Led next t h
unfolding leads_to
led_at next t h d (Some z) p q = record { dir = d; to = z; leads = p; passes = q }
led_at next t h d None p q = not_both false q refl

pub led : (next : Ways) (t : ℕ → Bool) (h : ℕ) → any (λ d. leads_to t (next h d)) 6 ≡ true → Led next t h
led next t h e = let k = any_some (λ d. leads_to t (next h d)) 6 e in led_at next t h k.at (next h k.at) refl k.passes

at_leads : (b : Option ℕ) (y : ℕ) → is_at b y ≡ leads_to (λ z. eqb z y) b
unfolding is_at leads_to
at_leads (Some z) y = refl
at_leads None y = refl

pub led_next : (next : Ways) (h y : ℕ) → leads next h y ≡ true → Led next (λ z. eqb z y) h
unfolding leads
led_next next h y e =
    led next (λ z. eqb z y) h
    (sym (any_same (λ d. is_at (next h d) y) (λ d. leads_to (λ z. eqb z y) (next h d)) 6 (λ d l. at_leads (next h d) y)) ∙ e)

-- a chain of `left` stacks ends in a place that close
rest_close :
    (l : List ℕ) (s : Stands) (used : List ℕ) (h x y n : ℕ) → n < 3 → Close x h n → rests_beside (next_in l) s used h y ≡ true → Close x y 3
unfolding rests_beside
rest_close l s used h x y n b c e =
    let k = led_next (next_in l) h y (both_yes (leads (next_in l) h y) (rests s used y) e).0 in
    let q : k.to ≡ y = eqb-true k.to y k.passes in
    close_more 3 (omega arith) (close_step l h k.dir y (k.leads ∙ ap Some q) c)

led_end :
    (next : Ways) (s : Stands) (used : List ℕ) (left h y : ℕ) → up_to (end_via next s used left h) 6 y ≡ true
    → Led next (end_from next s used left y) h
unfolding up_to end_via
led_end next s used left h y e = led next (end_from next s used left y) h e

end_on : (next : Ways) (s : Stands) (used : List ℕ) (left z y : ℕ) → end_from next s used left y z ≡ true → ends_in next s used left z y ≡ true
unfolding end_from
end_on next s used left z y e = (both_yes (yields s used z) (ends_in next s used left z y) e).1

pub ends_close :
    (l : List ℕ) (s : Stands) (used : List ℕ) (left h x y : ℕ) → left ≤ 3 → Close x h (3 - left) → ends_in (next_in l) s used left h y ≡ true
    → Close x y 3
ends_close l s used zero h x y b c e = not_both (ends_in (next_in l) s used 0 h y) e (none_left (next_in l) s used 0 h y)
ends_close l s used (suc left) h x y b c e =
    either (has_rest (next_in l) s (h ∷ used) h)
    (λ r. rest_close l s (h ∷ used) h x y (3 - suc left) (omega arith) c (by_rest (next_in l) s used left h y r ∙ e))
    (λ r.
    let k = led_end (next_in l) s (h ∷ used) left h y (by_push (next_in l) s used left h y r ∙ e) in
    ends_close l s (h ∷ used) left k.to x y (omega arith)
    (close_more (3 - left) (omega arith) (close_step l h k.dir k.to k.leads c))
    (end_on (next_in l) s (h ∷ used) left k.to y k.passes))

-- where nothing was marked before, the marks are what the test says, if it holds of no place further off
module _ {x : ℕ} {t : ℕ → Bool} {l m : List ℕ} (k : Blank l) (a : Marks x t l m) where
  blank : (y : ℕ) → marked l x y ≡ false
  unfolding marked mark_in
  blank y =
      let j = span + y - x in
      ap (has (bit_of (j % 8))) (k.each (j / 8)) ∙ has_none (j % 8)

  marked_is : (y : ℕ) → Close x y 3 → end_marked m x y ≡ t y
  marked_is y c =
      end_in m x y (omega (arith, c.after)) (omega (arith, c.before))
      ∙ a.each y c
      ∙ ap (λ (b : Bool). t y || b) (blank y)
      ∙ or-false (t y)

  pub ended_by : ((y : ℕ) → t y ≡ true → Close x y 3) → (y : ℕ) → y < places → end_marked m x y ≡ t y
  ended_by f y b = go (dec_le x (y + span)) (dec_le y (x + span))
    where
      no_end : (Close x y 3 → ⊥) → false ≡ t y
      no_end n = either (t y) (λ e. absurd (n (f y e))) (λ e. sym e)

      go : Dec (x ≤ y + span) → Dec (y ≤ x + span) → end_marked m x y ≡ t y
      go (no p) q = end_before m x y (omega arith) ∙ no_end (λ c. p (omega (arith, c.after)))
      go (yes p) (no q) = end_after m x y (omega arith) ∙ no_end (λ c. q (omega (arith, c.before)))
      go (yes p) (yes q) = marked_is y (record { below = b; after = omega arith; before = omega arith })

-- so it is of the chains from place x on that push at most three stacks
pub ended :
    {l m : List ℕ} (plot : List ℕ) (s : Stands) (used : List ℕ) (x y : ℕ) → Blank l → Marks x (ends_in (next_in plot) s used 3 x) l m
    → x < places → y < places → end_marked m x y ≡ ends_in (next_in plot) s used 3 x y
ended plot s used x y k a p q =
    ended_by k a
    (λ z e. ends_close plot s used 3 x x z (omega arith) (close_self x p) e)
    y q
