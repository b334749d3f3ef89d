-- Demand 3 by the marks that are seen: a call moves no strength, hides no counter, and leaves face up what it turns over.
-- Assumes nothing.
use Prim.Native.Nat.{ℕ, ◌<◌}
use mathlib.Core.Path.{◌≡◌, refl, sym, ap, subst, ◌∙◌}
use mathlib.Core.Bool.{Bool, true, false, cond}
use mathlib.Core.List.{List, [], ◌∷◌}
use native.Mathlib.Omega.{arith}
use native.Mathlib.Decide.{dec_lt, ℕ_discrete}
use lib.Dec.{ltb}
use Rattle.position.specs.Bits.{has, tried}
use Rattle.position.specs.Layout.{count, marks, strength}
use Rattle.position.specs.Board.{Board, board}
use Rattle.position.specs.Shape.{Shaped}
use Rattle.position.specs.Change.{Change, makes, turned}
use Rattle.position.specs.Change.Change.{placed, destroyed, marked, assigned, timed, staged, routed, unrouted}
use Rattle.position.specs.Effect.{with_hex, with_units, change}
use Rattle.position.proofs.Front.{Front, front_refl, front_trans, shaped_kept, count_kept}
use Rattle.position.proofs.Changes.{Made, made, turned_made}
use Rattle.acceptance.specs.Broken.{unbroken}
use Rattle.acceptance.specs.Alike.{Same, Alike}
use Rattle.acceptance.proofs.Alikes.{strength_alike}
use Rattle.acceptance.proofs.Stills.{turned_still, turned_tried, marked_still}
use Rattle.ruling.specs.Verdict.{Judge, Verdict, judged, outcome, revealed_by, revealed}
use Rattle.ruling.specs.Verdict.Judge.{reveal, rule}
use Rattle.ruling.specs.Verdict.Verdict.{refuse_if, judge}
use Rattle.ruling.specs.Secret.{Each, Sent, RunsAlike, verdict_on}
use Rattle.ruling.proofs.Secrets.{each_by}
use Rattle.rules.specs.Order.{Order, rule_of, step}
use Rattle.rules.specs.Turned.{TurnsOver, BeganAlike, SecrecyByMarks, Exhibited}
use Rattle.rules.specs.TrialsOfBattle.{fighting, facing, facing_too, attacking}
use Rattle.rules.proofs.Demands.{secrecy}
use Rattle.rules.proofs.FaceDown.{strength_else, alike_down}

-- unit w lies face up on the board
abbrev Up : Board → ℕ → Type 0
Up b w = has tried (b.units.state.marks w) ≡ true

-- no change turns a counter face down
change_up : (b : Board) (x : Change) (w : ℕ) → Up b w → Up (change b x) w
unfolding change
change_up b (placed u h) w t = at (ltb h b.map.hexes)
  where
    at : (y : Bool) → Up (cond y (with_units b (with_hex b.units u h)) b) w
    at true = t
    at false = t
change_up b (destroyed u) w t = (marked_still b u 0).face w t
change_up b (marked u m) w t = (marked_still b u m).face w t
change_up b (assigned u r) w t = t
change_up b (timed x f ph) w t = t
change_up b (staged s n x) w t = t
change_up b (routed r x y z k) w t = t
change_up b unrouted w t = t

-- q comes after p: the layout and the strengths are as they were, and what lay face up does so still
record After (p q : List ℕ) : Type 0 where
  front : Front p q
  strengths : (w : ℕ) → strength q w ≡ strength p w
  up : (w : ℕ) → Up (board p) w → Up (board q) w

after_refl : (p : List ℕ) → After p p
after_refl p = record { front = front_refl p; strengths = λ w. refl; up = λ w t. t }

after_trans : {p q r : List ℕ} → After p q → After q r → After p r
after_trans f g =
    record {
      front = front_trans f.front g.front;
      strengths = λ w. g.strengths w ∙ f.strengths w;
      up = λ w t. g.up w (f.up w t);
    }

-- the board as it is told
up_made : {p q : List ℕ} {b : Board} → Made p q b → (w : ℕ) → Up b w → Up (board q) w
up_made m w t = subst (λ (c : Board). Up c w) (sym m.board) t

after_made : {p q : List ℕ} {b : Board} → Made p q b → ((w : ℕ) → Up (board p) w → Up b w) → After p q
after_made m f = record { front = m.front; strengths = m.strengths; up = λ w t. up_made m w (f w t) }

after_makes : (xs : List Change) {p : List ℕ} → Shaped p → After p (makes p xs)
unfolding makes
after_makes [] {p} s = after_refl p
after_makes (x ∷ xs) {p} s =
    let a = after_made (made s x) (change_up (board p) x) in after_trans a (after_makes xs (shaped_kept a.front s))

-- q comes after p, and the units us of p lie face up in it
record Turning (p q us : List ℕ) : Type 0 where
  after : After p q
  seen : Each (λ u. u < count p → Up (board q) u) us

turning_judged : (j : Judge) {p : List ℕ} → Shaped p → Turning p (judged p j).position (revealed_by p j)
unfolding judged revealed_by
turning_judged (reveal u k) {p} s =
    let m = turned_made s u in
    let a = after_made m (turned_still (board p) u (strength p u)).face in
    let t = turning_judged (k (strength p u)) (shaped_kept a.front s) in
    record {
      after = after_trans a t.after;
      seen = (
        λ l. t.after.up u (up_made m u (turned_tried (board p) u (strength p u) l)),
        each_by (λ w f l. f (omega (arith, count_kept a.front))) (revealed_by (turned p u) (k (strength p u))) t.seen,
      );
    }
turning_judged (rule vs xs l) s = record { after = after_makes xs s; seen = tt }

turning : (v : Verdict) {p : List ℕ} (l : List ℕ) → Shaped p → Turning p (outcome p l v).position (revealed p v)
unfolding outcome revealed
turning (refuse_if true n k v) {p} l s = record { after = after_refl p; seen = tt }
turning (refuse_if false n k v) l s = turning v l s
turning (judge j) l s = turning_judged j s

-- the units us have one strength in two positions that look the same, if those that are turned over have: the others were seen in both, or
-- are not there
one_strength :
    {r s r' us : List ℕ} → Same r s → Turning r r' us → ((u : ℕ) → TurnsOver r r' u → strength r u ≡ strength s u)
    → Each (λ u. strength r u ≡ strength s u) us
one_strength {r} {s} {r'} {us} same t h = each_by (λ u up. at u up (dec_lt u (count r)) (has tried (marks r u)) refl) us t.seen
  where
    at :
        (u : ℕ) → (u < count r → Up (board r') u) → Dec (u < count r) → (t : Bool) → has tried (marks r u) ≡ t
        → strength r u ≡ strength s u
    at u up (no n) t e = sym (strength_alike same u (λ l _. n l))
    at u up (yes l) true e = sym (strength_alike same u (λ _ d. let z : ◌≡◌ {A = ℕ} 0 1 = cc in omega arith))
    at u up (yes l) false e = h u (e, up l)

-- the runs from two positions on that have the strengths of p and of q
module _ (p q : List ℕ) where
  runs_on :
      (r s : List ℕ) (cs : List (Sent Order)) → Alike r s → ((w : ℕ) → strength r w ≡ strength p w)
      → ((w : ℕ) → strength s w ≡ strength q w) → BeganAlike p q r cs → RunsAlike step r s cs
  runs_on r s [] a e f h = tt
  runs_on r s (c ∷ cs) a e f h =
      let t = turning (verdict_on rule_of r c) c.lent a.first.shaped in
      let t' = turning (verdict_on rule_of s c) c.lent a.second.shaped in
      let o = secrecy r s (c ∷ []) a (one_strength a.same t (λ u v. e u ∙ h.0 u v ∙ sym (f u)), tt) in (
        o.0,
        o.1,
        o.2,
        runs_on (step r c).position (step s c).position cs o.2 (λ w. t.after.strengths w ∙ e w)
            (λ w. t'.after.strengths w ∙ f w)
            h.1,
      )

pub secrecy_by_marks : SecrecyByMarks
secrecy_by_marks p q cs a h = runs_on p q p q cs a (λ w. refl) (λ w. refl) h

-- the two positions look alike, and are not equal
facing_alike : Alike facing facing_too
unfolding fighting
facing_alike = alike_down facing 2 4 (unbroken facing refl) refl (record { low = omega arith; high = omega arith })

facing_apart : facing ≡ facing_too → ⊥
unfolding fighting
facing_apart e = let z : ◌≡◌ {A = ℕ} 5 4 = ap (λ (p : List ℕ). strength p 2) e in omega arith

-- the attack turns unit 0 over, and unit 2 stays face down
first_turned : TurnsOver facing (step facing attacking).position 0
unfolding fighting
first_turned = (refl, refl)

third_down : has tried (marks (step facing attacking).position 2) ≡ false
unfolding fighting
third_down = refl

-- so whatever it turns over has one strength in both
began : (u : ℕ) → TurnsOver facing (step facing attacking).position u → strength facing u ≡ strength facing_too u
began u t = at (ℕ_discrete u 2)
  where
    at : Dec (u ≡ 2) → strength facing u ≡ strength facing_too u
    at (yes e) = let z : ◌≡◌ {A = ℕ} 0 1 = cc third_down in absurd (omega arith)
    at (no n) = sym (strength_else facing 2 4 u n)

pub exhibited : Exhibited
exhibited =
    record {
      first = facing;
      second = facing_too;
      call = attacking;
      alike = facing_alike;
      apart = facing_apart;
      unit = 0;
      turned = first_turned;
      began = (began, tt);
    }
