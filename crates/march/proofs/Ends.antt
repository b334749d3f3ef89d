-- What the parts of the end of a phase add up to: marks and scenes along the changes, a unit judged, a nationality, a force, and all.
-- Assumes nothing.
use Prim.Native.Nat.{ℕ, zero, suc, ◌+◌, ◌%◌, ◌≤◌, ◌<◌}
use mathlib.Core.Path.{◌≡◌, refl, sym, ap, subst, ◌∙◌}
use mathlib.Core.Bool.{Bool, true, false, not, cond}
use mathlib.Core.List.{List, [], ◌∷◌, ◌++◌}
use native.Mathlib.Omega.{arith}
use native.Mathlib.Numerals.{add-one}
use lib.Dec.{leb, eqb}
use borrow.Author.Tests.{eqb-true, eq-eqb, ne_eqb, le-leb, lt-leb}
use Rattle.position.specs.Bits.{with, without, supplied, moved, fought, faced}
use Rattle.position.specs.Layout as Layout
use Rattle.position.specs.Board.{Board, board, nowhere}
use Rattle.position.specs.Shape.{Shaped}
use Rattle.acceptance.specs.Accepted.{Lawful, Accepted}
use Rattle.position.specs.Change.{Change, make, makes}
use Rattle.position.specs.Change.Change.{marked, timed}
use Rattle.position.specs.Effect.{change, changes}
use Rattle.position.proofs.Tallies.{same_or}
use Rattle.position.proofs.Shapes.{hexes_most}
use Rattle.position.proofs.Front.{shaped_kept}
use Rattle.position.proofs.Effects.{upd_there, upd_else}
use Rattle.position.proofs.Changes.{front_makes, board_make, board_makes, makes_snoc, makes_then}
use Rattle.walk.specs.Chain.{mark}
use Rattle.field.specs.Scene.{Scene, scene}
use Rattle.field.proofs.Scenes.{scene_marks}
use Rattle.field.proofs.Scenes.Still.{marks as still, clock as still-clock}
use Rattle.supply.specs.Supply as Supply
use Rattle.supply.specs.Traced.{Traced}
use Rattle.clock.specs.declared.Clock.{Clock}
use Rattle.clock.specs.Clock.{next_clock, judges_supply}
use Rattle.clock.proofs.Turns.{next_by}
use Rattle.march.specs.EndPhase.{rested, rest_all, judged_marks, mapped_of, judge_all, judge_force, supply_changes, end_changes}
use Rattle.march.specs.Ending.{Waits, Since, JudgesUnit, JudgesAll, JudgesForce, JudgesPhase}
use Rattle.acceptance.proofs.Carries.{changes_then}
use Rattle.acceptance.proofs.Lawfuls.{standable_on}
use Rattle.position.proofs.Tallies.{both_yes}

-- board d is board c to zones and supply, and unit w has the same marks
record Same (c d : Board) (w : ℕ) : Type 0 where
  scenes : scene d ≡ scene c
  marks : d.units.state.marks w ≡ c.units.state.marks w

same_refl : (c : Board) (w : ℕ) → Same c c w
same_refl c w = record { scenes = refl; marks = refl }

same_then : {c : Board} {w : ℕ} (xs ys : List Change) → Same c (changes c xs) w → Same (changes c xs) (changes (changes c xs) ys) w → Same c (changes c (xs ++ ys)) w
same_then {c} xs ys s t =
    rw (changes_then xs ys c) (record { scenes = t.scenes ∙ s.scenes; marks = t.marks ∙ s.marks })

same_marked : (c : Board) (u m w : ℕ) → (w ≡ u → ⊥) → Same c (changes c (marked u m ∷ [])) w
unfolding changes change
same_marked c u m w n =
    record { scenes = scene_marks c {x = marked u m} still; marks = upd_else c.units.count c.units.state.marks u _ w (λ _ e. n e) }

module _ (b c : Board) (w : ℕ) where
  -- units from n on are not rested yet
  same_rested : (n : ℕ) → n ≤ w → Same c (changes c (rest_all b n)) w
  unfolding rest_all changes
  same_rested zero h = same_refl c w
  same_rested (suc n) h =
      same_then (rest_all b n) (marked n (rested (b.units.state.marks n)) ∷ []) (same_rested n (omega arith))
      (same_marked (changes c (rest_all b n)) n (rested (b.units.state.marks n)) w (λ e. omega arith))

  same_cond : {d : Board} (t : Bool) (k m : ℕ) → (t ≡ true → w ≡ k → ⊥) → Same d (changes d (cond t (marked k m ∷ []) [])) w
  unfolding changes
  same_cond {d} true k m h = same_marked d k m w (h refl)
  same_cond {d} false k m h = same_refl d w

  -- nor are units from k on judged, nor those of other nationalities
  same_judged : (n k : ℕ) → (w < k → b.units.counter.nationality w ≡ n → ⊥) → Same c (changes c (judge_all b n k)) w
  unfolding judge_all changes mapped_of
  same_judged n zero h = same_refl c w
  same_judged n (suc k) h =
      let t = eqb (b.units.counter.nationality k) n in
      let f = not (eqb (b.units.state.hex k) nowhere) in
      same_then (judge_all b n k) (cond (mapped_of b n k) (marked k (judged_marks b k) ∷ []) [])
      (same_judged n k (λ l. h (omega arith)))
      (same_cond (mapped_of b n k) k (judged_marks b k)
      (λ y e. h (omega arith) (ap b.units.counter.nationality e ∙ eqb-true (b.units.counter.nationality k) n (both_yes t f y).0)))

-- marks stay bytes, and keep the face that they show
pub rested_byte : (m : ℕ) → m < 256 → rested m < 256
unfolding rested without
rested_byte m l = omega arith

pub with_byte : (m : ℕ) → m < 256 → with supplied m < 256
unfolding with
with_byte m l = omega arith

pub without_byte : (m : ℕ) → m < 256 → without supplied m < 256
unfolding without
without_byte m l = omega arith

parity_moved : (m : ℕ) → without moved m % 2 ≡ m % 2
unfolding without
parity_moved m = omega arith

parity_fought : (m : ℕ) → without fought m % 2 ≡ m % 2
unfolding without
parity_fought m = omega arith

faced_rested : (m : ℕ) → faced m (rested m) ≡ rested m
unfolding faced rested
faced_rested m = omega (arith, parity_moved (without fought m), parity_fought m)

-- the marks after all units below n are rested
marks_rested : (b : Board) (n w : ℕ) → n ≤ b.units.count → w < n → (changes b (rest_all b n)).units.state.marks w ≡ rested (b.units.state.marks w)
unfolding rest_all changes change
marks_rested b zero w h l = absurd (omega arith)
marks_rested b (suc n) w h l =
    let d = changes b (rest_all b n) in
    let m = b.units.state.marks n in
    let s = same_rested b b n n (omega arith) in
    let full : d.units.count ≡ b.units.count = ap (λ (x : Scene). x.count) s.scenes in
    rw (changes_then (rest_all b n) (marked n (rested m) ∷ []) b)
    (same_or w n
    (λ e.
    rw e
    (upd_there d.units.count d.units.state.marks n (faced (d.units.state.marks n) (rested m)) (omega arith)
    ∙ ap (λ (x : ℕ). faced x (rested m)) s.marks
    ∙ faced_rested m))
    (λ e.
    upd_else d.units.count d.units.state.marks n (faced (d.units.state.marks n) (rested m)) w (λ _ z. e z)
    ∙ marks_rested b n w (omega arith) (omega arith)))

-- unit after unit: the marks that are read are still those that the call began with
pub rests_next :
    {p q r : List ℕ} {m x : ℕ} (u : ℕ) → Shaped p → q ≡ makes p (rest_all (board p) u) → m ≡ Layout.marks q u → x ≡ rested m
    → r ≡ make q (marked u x) → r ≡ makes p (rest_all (board p) (u + 1))
unfolding rest_all
rests_next {p} {q} {r} {m} {x} u h e f g k =
    let b = board p in
    let z : Layout.marks q u ≡ b.units.state.marks u =
    ap (λ (y : Board). y.units.state.marks u) (ap board e ∙ board_makes h (rest_all b u)) ∙ (same_rested b b u u (omega arith)).marks
    in
    k
    ∙ ap (λ (y : ℕ). make q (marked u y)) (g ∙ ap rested (f ∙ z))
    ∙ ap (λ (y : List ℕ). make y (marked u (rested (b.units.state.marks u)))) e
    ∙ sym (makes_snoc (rest_all b u) (marked u (rested (b.units.state.marks u))) p)
    ∙ rw (add-one u)

-- all units of a lawful board wait once they are rested and the clock is set
since_rested : {b : Board} → Lawful b → (t f ph n : ℕ) → Since b (change (changes b (rest_all b b.units.count)) (timed t f ph)) n
unfolding change
since_rested {b} l t f ph n =
    let k = b.units.count in
    let d = changes b (rest_all b k) in
    let z : scene (change d (timed t f ph)) ≡ scene b = scene_marks d {x = timed t f ph} still-clock ∙ (same_rested b b k k (omega arith)).scenes in
    record {
      scenes = z;
      waits =
          λ u h.
          record {
            scenes = z;
            stands = λ x. standable_on b (b.units.state.hex u) ((l.units.each u h).stand.mapped x).stands;
            marks = λ _. marks_rested b k u (omega arith) h;
          };
    }

-- unit u, of which the supply map tells
module _ {b c : Board} {n u : ℕ} (w : Waits b c n u) where
  abbrev nation : c.units.counter.nationality u ≡ b.units.counter.nationality u
  nation = ap (λ (x : Scene). x.nationality u) w.scenes

  abbrev place : c.units.state.hex u ≡ b.units.state.hex u
  place = ap (λ (x : Scene). x.hex u) w.scenes

  abbrev area : c.map.hexes ≡ b.map.hexes
  area = ap (λ (x : Scene). x.map.hexes) w.scenes

  unmapped_other : (c.units.counter.nationality u ≡ n → ⊥) → mapped_of b n u ≡ false
  unfolding mapped_of
  unmapped_other d = simp (ne_eqb (b.units.counter.nationality u) n (λ e. d (nation ∙ e)))

  unmapped_off : c.units.counter.nationality u ≡ n → c.map.hexes ≤ c.units.state.hex u → mapped_of b n u ≡ false
  unfolding mapped_of
  unmapped_off e l =
      same_or (b.units.state.hex u) nowhere
      (λ z. simp (eq-eqb (b.units.counter.nationality u) n (sym nation ∙ e), eq-eqb (b.units.state.hex u) nowhere z))
      (λ z. absurd (omega (arith, w.stands z, place, area)))

  mapped_on : c.units.counter.nationality u ≡ n → c.map.hexes ≤ 4096 → c.units.state.hex u < c.map.hexes → mapped_of b n u ≡ true
  unfolding mapped_of
  mapped_on e m l =
      let z : b.units.state.hex u ≡ nowhere → ⊥ = λ g. omega (arith, place) in
      simp (eq-eqb (b.units.counter.nationality u) n (sym nation ∙ e), ne_eqb (b.units.state.hex u) nowhere z)

  told : {map : List ℕ} → Traced (scene b) n map → c.units.state.hex u < c.map.hexes → Supply.supplied (scene b) n (b.units.state.hex u) ≡ leb 2 (mark map (c.units.state.hex u))
  told t l = ap (Supply.supplied (scene b) n) (sym place) ∙ t.tells (c.units.state.hex u) (omega (arith, area))

  judged_yes : c.units.counter.nationality u ≡ n → Supply.supplied (scene b) n (b.units.state.hex u) ≡ true → with supplied (c.units.state.marks u) ≡ judged_marks b u
  unfolding judged_marks
  judged_yes e t =
      let k = sym nation ∙ e in
      rw (k, t) (ap (with supplied) (w.marks k))

  judged_no : c.units.counter.nationality u ≡ n → Supply.supplied (scene b) n (b.units.state.hex u) ≡ false → without supplied (c.units.state.marks u) ≡ judged_marks b u
  unfolding judged_marks
  judged_no e t =
      let k = sym nation ∙ e in
      rw (k, t) (ap (without supplied) (w.marks k))

skipped : {p : List ℕ} {t : Bool} (x : Change) → t ≡ false → p ≡ makes p (cond t (x ∷ []) [])
unfolding makes
skipped x e = simp e

taken : {q : List ℕ} {t : Bool} {m m' : ℕ} (p : List ℕ) (u : ℕ) → t ≡ true → m ≡ m' → q ≡ make p (marked u m) → q ≡ makes p (cond t (marked u m' ∷ []) [])
unfolding makes
taken p u e g h = simp e (h ∙ ap (λ (x : ℕ). make p (marked u x)) g)

-- marks do not matter to zones and supply
scene_made : {p q : List ℕ} (u m : ℕ) → Shaped p → q ≡ make p (marked u m) → scene (board q) ≡ scene (board p)
unfolding makes changes
scene_made {p} u m h g =
    ap (λ (x : List ℕ). scene (board x)) g ∙ ap scene (board_makes h (marked u m ∷ [])) ∙ scene_marks (board p) {x = marked u m} still

module _ {p map : List ℕ} {n u : ℕ} where
  -- a unit of another nationality, and one that is not on the map
  pub left_other : (Layout.nationality p u ≡ n → ⊥) → JudgesUnit p map n u p
  left_other d = record { judged = λ b w e. skipped _ (unmapped_other w d); scenes = refl }

  module _ (k : Layout.nationality p u ≡ n) where
    pub left_off : Layout.hexes p ≤ Layout.hex p u → JudgesUnit p map n u p
    left_off l = record { judged = λ b w e. skipped _ (unmapped_off w k l); scenes = refl }

    -- and one that is
    module _ {q : List ℕ} (h : Shaped p) (l : Layout.hex p u < Layout.hexes p) where
      pub judged_in : 2 ≤ mark map (Layout.hex p u) → q ≡ make p (marked u (with supplied (Layout.marks p u))) → JudgesUnit p map n u q
      judged_in two g =
          record {
            judged =
                λ b w e.
                taken p u (mapped_on w k (hexes_most h) l)
                (judged_yes w k (told w e l ∙ le-leb 2 (mark map (Layout.hex p u)) two))
                g;
            scenes = scene_made u (with supplied (Layout.marks p u)) h g;
          }

      pub judged_out : mark map (Layout.hex p u) < 2 → q ≡ make p (marked u (without supplied (Layout.marks p u))) → JudgesUnit p map n u q
      judged_out d g =
          record {
            judged =
                λ b w e.
                taken p u (mapped_on w k (hexes_most h) l)
                (judged_no w k (told w e l ∙ lt-leb 2 (mark map (Layout.hex p u)) d))
                g;
            scenes = scene_made u (without supplied (Layout.marks p u)) h g;
          }

-- unit after unit
pub judges_none : (p : List ℕ) (n : ℕ) → JudgesAll p n 0 p
unfolding judge_all makes
judges_none p n = record { judged = λ b s. refl; scenes = refl }

-- a unit still waits when those before it are judged
waits_next : {b c : Board} {n : ℕ} → Since b c n → (u : ℕ) → u < b.units.count → Waits b (changes c (judge_all b n u)) n u
waits_next {b} {c} {n} s u l =
    let w = s.waits u l in
    let t = same_judged b c u n u (λ z. absurd (omega arith)) in
    record { scenes = t.scenes ∙ w.scenes; stands = w.stands; marks = λ e. t.marks ∙ w.marks e }

scene_judged : (b c : Board) (n k : ℕ) → scene (changes c (judge_all b n k)) ≡ scene c
scene_judged b c n k = (same_judged b c k n k (λ z. absurd (omega arith))).scenes

pub judges_next :
    {p map q r : List ℕ} {n u : ℕ} → Shaped p → u < Layout.count p → Traced (scene (board p)) n map
    → JudgesAll p n u q → JudgesUnit q map n u r → JudgesAll p n (u + 1) r
unfolding judge_all
judges_next {p} {map} {q} {r} {n} {u} h l m a g =
    record {
      judged =
          λ b s.
          let e = a.judged b s in
          let x = cond (mapped_of b n u) (marked u (judged_marks b u) ∷ []) [] in
          let z : board q ≡ changes (board p) (judge_all b n u) = ap board e ∙ board_makes h (judge_all b n u) in
          let full : Layout.count p ≡ b.units.count = ap (λ (y : Scene). y.count) s.scenes in
          g.judged b (rw z (waits_next s u (omega arith)))
          (subst (λ (y : Scene). Traced y n map) s.scenes m)
          ∙ ap (λ (y : List ℕ). makes y x) e
          ∙ sym (makes_then (judge_all b n u) x p)
          ∙ rw (add-one u);
      scenes = g.scenes ∙ a.scenes;
    }

-- units of one nationality still wait when those of another are judged
since_other : {b c : Board} {m n : ℕ} → (m ≡ n → ⊥) → (k : ℕ) → Since b c m → Since b (changes c (judge_all b n k)) m
since_other {b} {c} {m} {n} d k s =
    record {
      scenes = scene_judged b c n k ∙ s.scenes;
      waits =
          λ u l.
          let w = s.waits u l in
          record {
            scenes = scene_judged b c n k ∙ w.scenes;
            stands = w.stands;
            marks = λ e. (same_judged b c u n k (λ _ z. d (sym e ∙ z))).marks ∙ w.marks e;
          };
    }

-- force 3 with its two nationalities, and the others
module _ (p : List ℕ) {k : ℕ} (e : k ≡ Layout.count p) where
  full : {b : Board} {n : ℕ} → Since b (board p) n → k ≡ b.units.count
  full s = e ∙ ap (λ (x : Scene). x.count) s.scenes

  pub judges_two : {q r : List ℕ} {f : ℕ} → Shaped p → f ≡ 3 → JudgesAll p 3 k q → JudgesAll q 4 k r → JudgesForce p f r
  unfolding judge_force
  judges_two {q} {r} {f} h three a g =
      record {
        judged =
            λ b s.
            let x = a.judged b (s 3) in
            let z : board q ≡ changes (board p) (judge_all b 3 k) = ap board x ∙ board_makes h (judge_all b 3 k) in
            simp (eq-eqb f 3 three)
            (g.judged b (rw z (since_other (λ i. omega arith) k (s 4)))
            ∙ ap (λ (y : List ℕ). makes y (judge_all b 4 k)) x
            ∙ sym (makes_then (judge_all b 3 k) (judge_all b 4 k) p)
            ∙ ap (λ (i : ℕ). makes p (judge_all b 3 i ++ judge_all b 4 i)) (full (s 3)));
      }

  pub judges_one : {q : List ℕ} {f : ℕ} → (f ≡ 3 → ⊥) → JudgesAll p f k q → JudgesForce p f q
  unfolding judge_force
  judges_one {q} {f} d a =
      record {
        judged =
            λ b s.
            simp (ne_eqb f 3 d) (a.judged b (s f) ∙ ap (λ (i : ℕ). makes p (judge_all b f i)) (full (s f)));
      }

-- a phase in which supply is not judged, and one in which it is
pub judges_not : {p : List ℕ} {c : Clock} → judges_supply c ≡ false → JudgesPhase p c p
unfolding supply_changes makes
judges_not e = record { judged = λ b s. simp e }

pub judges_then : {p q : List ℕ} {c : Clock} → judges_supply c ≡ true → JudgesForce p c.force q → JudgesPhase p c q
unfolding supply_changes
judges_then e g = record { judged = λ b s. simp e (g.judged b s) }

-- the next clock's numbers are bytes
pub record Bytes (c : Clock) : Type 0 where
  pub turn : c.turn < 256
  pub force : c.force < 256
  pub phase : c.phase < 256

pub next_bytes : {b : Board} → Lawful b → Bytes (next_clock b.desk.clock)
next_bytes {b} l =
    next_by Bytes b.desk.clock
    (λ _ _. record { turn = omega (arith, l.clock.turn.high); force = omega arith; phase = omega arith })
    (λ _ _. record { turn = omega (arith, l.clock.turn.high); force = omega (arith, l.clock.force); phase = omega arith })
    (λ _. record { turn = omega (arith, l.clock.turn.high); force = omega (arith, l.clock.force); phase = omega (arith, l.clock.phase) })

-- marks, clock and supply, one after the other
pub all_ended :
    {p q r s : List ℕ} {k : ℕ} {c : Clock} → Accepted p → k ≡ Layout.count p → c ≡ next_clock (board p).desk.clock
    → q ≡ makes p (rest_all (board p) k) → r ≡ make q (timed c.turn c.force c.phase) → JudgesPhase r c s
    → s ≡ makes p (end_changes (board p))
unfolding end_changes makes
all_ended {p} {q} {r} {s} {k} {c} a e n f g j =
    let b = board p in
    let xs = rest_all b b.units.count in
    let x = timed c.turn c.force c.phase in
    let y : q ≡ makes p xs = f ∙ ap (λ (i : ℕ). makes p (rest_all b i)) e in
    let z : r ≡ make (makes p xs) x = g ∙ ap (λ (i : List ℕ). make i x) y in
    let o : board r ≡ change (changes b xs) x =
    ap board z
    ∙ board_make (shaped_kept (front_makes a.shaped xs) a.shaped) x
    ∙ ap (λ (i : Board). change i x) (board_makes a.shaped xs)
    in
    j.judged b (λ m. rw o (since_rested a.lawful c.turn c.force c.phase m))
    ∙ ap (λ (i : List ℕ). makes i (supply_changes b c)) z
    ∙ sym (makes_then xs (x ∷ supply_changes b c) p)
    ∙ ap (λ (i : Clock). makes p (xs ++ (timed i.turn i.force i.phase ∷ supply_changes b i))) n
