-- Laws of what a battle writes: units turned over and marked, routes written once each, sides that suffer; and all together.
-- Assumes nothing.
use Prim.Native.Nat.{◌%◌, ◌*◌, ◌+◌, ◌-◌, ◌/◌, ◌<◌, ◌≤◌, suc, ℕ}
use mathlib.Core.Bool.{Bool, ◌||◌, cond, false, or-false, or-true, true}
use mathlib.Core.List.{List, [], ◌++◌, ◌∷◌, map}
use mathlib.Core.Path.{◌∙◌, ◌≡◌, ap, ap₂, refl, sym}
use native.Mathlib.Omega.{arith}
use borrow.Author.Tests.{eq-eqb, eqb-true, ne_eqb}
use lib.Dec.{eqb}
use lib.ListN.{drop, get_or, length, length-append, length-drop, take}
use lib.Seq.{drop-append_seam, take_all}
use Rattle.position.proofs.Answers.{all}
use Rattle.position.proofs.Changes.{board_make, board_makes, laid_make, laid_turned, makes_snoc, makes_then, turned_made}
use Rattle.position.proofs.Effects.{upd_case}
use Rattle.position.proofs.Tallies.{either, not_both}
use Rattle.position.specs.Shape.{Shaped}
use Rattle.position.specs.Bits.{faced, fought, tried, with}
use Rattle.position.specs.Board.{Board, Units, board, nowhere}
use Rattle.position.specs.Change.{Change, make, makes, turned}
use Rattle.position.specs.Change.Change.{assigned, destroyed, marked, routed, staged}
use Rattle.position.specs.Laid.{Laid}
use Rattle.position.specs.Effect.{change, changes, turned_up}
use Rattle.position.specs.Layout.{hex, marks, set_marks, strength}
use Rattle.position.specs.declared.View.{View}
use Rattle.ruling.proofs.Meets.{seen, map_same}
use Rattle.ruling.specs.Verdict.{turned_all}
use Rattle.field.proofs.Scenes.{scene_marks, scene_turned_up}
use Rattle.field.specs.Scene.{Scene, scene}
use Rattle.field.proofs.Lists.{map_last, named_last, take_more}
use Rattle.field.proofs.Making.{makes_more}
use Rattle.field.specs.Listed.{named}
use Rattle.results.specs.Participants.{defenders, participants}
use Rattle.results.specs.Results.{add_once, battle_changes, fought_by, lost, once_each, routed_from, routes_written, suffered_by, suffers}
use Rattle.results.specs.Settled.{Likened, MarksAll, RoutesOnce}
use Rattle.results.specs.declared.Upshot.{Upshot}
use Rattle.field.proofs.Scenes.Still.{marks as still}

-- units turned over, one after another
turned_last : (p xs : List ℕ) (x : ℕ) → turned_all p (xs ++ (x ∷ [])) ≡ turned (turned_all p xs) x
unfolding turned_all
turned_last p [] x = refl
turned_last p (y ∷ ys) x = turned_last (turned p y) ys x

pub record Turning (p : List ℕ) (v : View) (us : List ℕ) (i : ℕ) (q : List ℕ) : Type 0 where
  pub most : i ≤ length us
  pub made : q ≡ turned_all p (take i us)
  pub laid : Laid q v

pub turning_none : {p us : List ℕ} {v : View} → Laid p v → Turning p v us 0 p
unfolding turned_all
turning_none l = record { most = omega arith; made = refl; laid = l }

pub turning_more :
    {p us q r : List ℕ} {v : View} {i u : ℕ} → Turning p v us i q → i < length us → u ≡ get_or us i 0 → r ≡ turned q u → Turning p v us (i + 1) r
turning_more {p} {us} {q} {r} {v} {i} {u} o l e f =
    record {
      most = omega arith;
      made =
          f
          ∙ ap₂ turned o.made e
          ∙ sym (ap (turned_all p) (take_more us i l) ∙ turned_last p (take i us) (get_or us i 0));
      laid = rw f (laid_turned o.laid u);
    }

-- a side that is destroyed, and one that gets a role
module _ (fate u : ℕ) where
  pub suffers_lost : fate ≡ lost → suffers fate u ≡ destroyed u
  unfolding suffers
  suffers_lost e = simp (eq-eqb fate lost e)

  pub suffers_role : (fate ≡ lost → ⊥) → suffers fate u ≡ assigned u fate
  unfolding suffers
  suffers_role d = simp (ne_eqb fate lost d)

-- tried and fought do not matter to what fought leaves
fought_half : (m : ℕ) → with fought m / 2 ≡ m / 2 % 4 + 4 + m / 2 / 8 * 8
unfolding with
fought_half m = omega arith

tried_half : (m : ℕ) → with tried m / 2 ≡ m / 2
unfolding with
tried_half m = omega arith

fought_tried : (m : ℕ) → with fought (with tried m) / 2 ≡ with fought m / 2
fought_tried m = fought_half (with tried m) ∙ ap (λ (h : ℕ). h % 4 + 4 + h / 8 * 8) (tried_half m) ∙ sym (fought_half m)

fought_faced : (old m : ℕ) → with fought (faced old (with fought m)) / 2 ≡ with fought m / 2
unfolding with faced
fought_faced old m = omega arith

pub fought_byte : (m : ℕ) → m < 256 → with fought m < 256
unfolding with
fought_byte m l = omega arith

pub likened_refl : (b : Board) → Likened b b
likened_refl b = record { marks = λ u. refl }

likened_turned : {b c : Board} → Likened b c → (u x : ℕ) → Likened b (turned_up c u x)
unfolding turned_up
likened_turned {b} {c} o u x =
    record {
      marks =
          λ w.
          upd_case (λ m. with fought m / 2 ≡ with fought (b.units.state.marks w) / 2) c.units.count c.units.state.marks u (with tried (c.units.state.marks u)) w
          (λ _ e. fought_tried (c.units.state.marks u) ∙ o.marks u ∙ ap (λ (y : ℕ). with fought (b.units.state.marks y) / 2) (sym e))
          (o.marks w);
    }

likened_fought : {b c : Board} → Likened b c → (u : ℕ) → Likened b (change c (marked u (with fought (b.units.state.marks u))))
unfolding change
likened_fought {b} {c} o u =
    let m = b.units.state.marks u in
    record {
      marks =
          λ w.
          upd_case (λ y. with fought y / 2 ≡ with fought (b.units.state.marks w) / 2) c.units.count c.units.state.marks u (faced (c.units.state.marks u) (with fought m)) w
          (λ _ e. fought_faced (c.units.state.marks u) m ∙ ap (λ (y : ℕ). with fought (b.units.state.marks y) / 2) (sym e))
          (o.marks w);
    }

-- what is turned over keeps the layout, the scene and the marks but tried
pub record Turned (b : Board) (v : View) (q : List ℕ) : Type 0 where
  pub laid : Laid q v
  pub likened : Likened b (board q)
  pub scenes : scene (board q) ≡ scene b

turned_all_lem : {b : Board} {q : List ℕ} {v : View} → Turned b v q → (us : List ℕ) → Turned b v (turned_all q us)
unfolding turned_all
turned_all_lem o [] = o
turned_all_lem {b} {q} {v} o (u ∷ us) =
    let e = (turned_made o.laid.shaped u).board in
    turned_all_lem {q = turned q u}
    (record {
      laid = laid_turned o.laid u;
      likened = rw e (likened_turned o.likened u (strength q u));
      scenes = ap scene e ∙ scene_turned_up (board q) u (strength q u) ∙ o.scenes;
    })
    us

pub turned_over : {p : List ℕ} {v : View} → Laid p v → (us : List ℕ) → Turned (board p) v (turned_all p us)
turned_over {p} l us = turned_all_lem (record { laid = l; likened = likened_refl (board p); scenes = refl }) us

-- only the marks but tried of a change of marks matter
marked_same : (q : List ℕ) (u x y : ℕ) → x / 2 ≡ y / 2 → make q (marked u x) ≡ make q (marked u y)
unfolding make faced
marked_same q u x y e = ap (λ (h : ℕ). set_marks q u (h * 2 + marks q u % 2)) e

-- the first i units have fought
pub record Marking (p : List ℕ) (v : View) (us : List ℕ) (i : ℕ) (q : List ℕ) : Type 0 where
  pub most : i ≤ length us
  pub laid : Laid q v
  pub made : (b : Board) → Likened b (board p) → (q ≡ makes p (fought_by b (take i us))) × Likened b (board q)

pub marking_none : {p us : List ℕ} {v : View} → Laid p v → Marking p v us 0 p
unfolding makes fought_by
marking_none l = record { most = omega arith; laid = l; made = λ b o. (refl, o) }

pub marking_more :
    {p us q r : List ℕ} {v : View} {i u m x : ℕ} → Marking p v us i q → i < length us → u ≡ get_or us i 0 → m ≡ marks q u → x ≡ with fought m
    → r ≡ make q (marked u x) → Marking p v us (i + 1) r
unfolding fought_by
marking_more {p} {us} {q} {r} {v} {i} {u} {m} {x} o l e f g h =
    record {
      most = omega arith;
      laid = rw h (laid_make o.laid (marked u x));
      made =
          λ b k.
          let n = o.made b k in
          let y : ℕ → Change = λ w. marked w (with fought (b.units.state.marks w)) in
          let z : r ≡ make q (y u) =
          h ∙ marked_same q u x (with fought (b.units.state.marks u)) (ap (λ (w : ℕ). w / 2) (g ∙ ap (with fought) f) ∙ n.1.marks u)
          in (
            z ∙ ap₂ (λ (s : List ℕ) (w : ℕ). make s (y w)) n.0 e ∙ sym (makes_more y p us i l),
            rw (ap board z ∙ board_make o.laid.shaped (y u)) (likened_fought n.1 u),
          );
    }

-- who is named in a list and behind it
named_still : (xs : List ℕ) (y x : ℕ) → named xs x ≡ true → named (xs ++ (y ∷ [])) x ≡ true
unfolding named
named_still [] y x e = not_both false e refl
named_still (z ∷ zs) y x e =
    either (eqb z x)
    (λ f. simp f)
    (λ f. simp f (named_still zs y x (simp f at e)))

-- the numbers named once each are those named
named_add : (seen : List ℕ) (y x : ℕ) → named (add_once seen y) x ≡ (named seen x || eqb y x)
unfolding add_once
named_add seen y x =
    either (named seen y)
    (λ e.
    either (eqb y x)
    (λ f. simp (e, f, or-true) (ap (named seen) (sym (eqb-true y x f)) ∙ e))
    (λ f. simp (e, f, or-false)))
    (λ e. either (named seen x) (λ f. simp (e, f) (named_still seen y x f)) (λ f. simp (e, f) (named_last seen y x f)))

or_assoc : (x y z : Bool) → ((x || y) || z) ≡ (x || (y || z))
or_assoc true y z = refl
or_assoc false y z = refl

named_each : (seen xs : List ℕ) (x : ℕ) → named (once_each seen xs) x ≡ (named seen x || named xs x)
unfolding once_each named
named_each seen [] x = simp or-false
named_each seen (y ∷ ys) x =
    named_each (add_once seen y) ys x
    ∙ ap (λ (t : Bool). t || named ys x) (named_add seen y x)
    ∙ or_assoc (named seen x) (eqb y x) (named ys x)

once_named : (xs : List ℕ) (x : ℕ) → named (once_each [] xs) x ≡ named xs x
unfolding named
once_named xs x = named_each [] xs x

once_last : (seen xs : List ℕ) (x : ℕ) → once_each seen (xs ++ (x ∷ [])) ≡ add_once (once_each seen xs) x
unfolding once_each
once_last seen [] x = refl
once_last seen (y ∷ ys) x = once_last (add_once seen y) ys x

-- one more number, named before or not
module _ (xs : List ℕ) (x : ℕ) where
  once_old : named xs x ≡ true → once_each [] (xs ++ (x ∷ [])) ≡ once_each [] xs
  unfolding add_once
  once_old e = once_last [] xs x ∙ simp (once_named xs x ∙ e)

  once_new : named xs x ≡ false → once_each [] (xs ++ (x ∷ [])) ≡ once_each [] xs ++ (x ∷ [])
  unfolding add_once
  once_new e = once_last [] xs x ∙ simp (once_named xs x ∙ e)

routed_last :
    (r : ℕ) (hs : List ℕ) (h : ℕ) → routed_from r (hs ++ (h ∷ [])) ≡ routed_from r hs ++ (routed (r + length hs) h nowhere nowhere nowhere ∷ [])
unfolding routed_from
routed_last r [] h = let e : r ≡ r + 0 = omega arith in ap (λ (k : ℕ). routed k h nowhere nowhere nowhere ∷ []) e
routed_last r (y ∷ ys) h =
    let e : r + 1 + length ys ≡ r + suc (length ys) = omega arith in
    ap (λ (l : List Change). routed r y nowhere nowhere nowhere ∷ l)
    (routed_last (r + 1) ys h ∙ ap (λ (k : ℕ). routed_from (r + 1) ys ++ (routed k h nowhere nowhere nowhere ∷ [])) e)

-- writing routes moves no unit
routed_units : (b : Board) (r : ℕ) (hs : List ℕ) → (changes b (routed_from r hs)).units ≡ b.units
unfolding routed_from changes change
routed_units b r [] = refl
routed_units b r (h ∷ hs) = routed_units (change b (routed r h nowhere nowhere nowhere)) (r + 1) hs

-- the hexes of the first i are written, as r routes
pub record Routing (p : List ℕ) (v : View) (us : List ℕ) (i r : ℕ) (q : List ℕ) : Type 0 where
  pub most : i ≤ length us
  pub laid : Laid q v
  pub count : r ≡ length (once_each [] (map (hex p) (take i us)))
  pub few : r ≤ i
  pub made : q ≡ makes p (routed_from 0 (once_each [] (map (hex p) (take i us))))

pub routing_none : {p us : List ℕ} {v : View} → Laid p v → Routing p v us 0 0 p
unfolding once_each routed_from makes
routing_none l = record { most = omega arith; laid = l; count = refl; few = omega arith; made = refl }

module _ {p us q : List ℕ} {v : View} {i r : ℕ} (s : Shaped p) (o : Routing p v us i r q) (l : i < length us) where
  stays : (u : ℕ) → hex q u ≡ hex p u
  stays u =
      let hs = once_each [] (map (hex p) (take i us)) in
      ap (λ (b : Board). b.units.state.hex u) (ap board o.made ∙ board_makes s (routed_from 0 hs))
      ∙ ap (λ (x : Units). x.state.hex u) (routed_units (board p) 0 hs)

  written : map (hex p) (take (i + 1) us) ≡ map (hex p) (take i us) ++ (hex p (get_or us i 0) ∷ [])
  written = ap (map (hex p)) (take_more us i l) ∙ map_last (hex p) (take i us) (get_or us i 0)

  pub routing_more :
      {n : ℕ} {t : List ℕ} → RoutesOnce q (named (map (hex q) (take i us)) (hex q (get_or us i 0))) r (hex q (get_or us i 0)) n t
      → Laid t v → Routing p v us (i + 1) n t
  routing_more {n} {t} g k =
      let xs = map (hex p) (take i us) in
      let h = hex p (get_or us i 0) in
      let e : named (map (hex q) (take i us)) (hex q (get_or us i 0)) ≡ named xs h =
      ap₂ named (map_same stays (take i us)) (stays (get_or us i 0))
      in
      either (named xs h)
      (λ f.
      let z = ap (once_each []) written ∙ once_old xs h f in
      let c = simp (e ∙ f) at g.count in
      let m = simp (e ∙ f) at g.made in
      record {
        most = omega arith;
        laid = k;
        count = c ∙ o.count ∙ ap length (sym z);
        few = omega (arith, o.few);
        made = m ∙ o.made ∙ ap (λ (x : List ℕ). makes p (routed_from 0 x)) (sym z);
      })
      (λ f.
      let hs = once_each [] xs in
      let z = ap (once_each []) written ∙ once_new xs h f in
      let c = simp (e ∙ f) at g.count in
      let m = simp (e ∙ f) at g.made in
      let a : r ≡ 0 + length hs = omega (arith, o.count) in
      let y : ℕ → ℕ → Change = λ a b. routed a b nowhere nowhere nowhere in
      record {
        most = omega arith;
        laid = k;
        count = omega (arith, ap length z ∙ length-append hs (h ∷ []), o.count);
        few = omega (arith, o.few);
        made =
            m
            ∙ ap₂ (λ (x : List ℕ) (b : ℕ). make x (y r b)) o.made (stays (get_or us i 0))
            ∙ ap (λ (a : ℕ). make (makes p (routed_from 0 hs)) (y a h)) a
            ∙ sym (makes_snoc (routed_from 0 hs) (y (0 + length hs) h) p)
            ∙ ap (makes p) (sym (routed_last 0 hs h))
            ∙ ap (λ (x : List ℕ). makes p (routed_from 0 x)) (sym z);
      })

-- a route written or not leaves the layout
laid_either : {q t : List ℕ} {v : View} (b : Bool) (x : Change) → Laid q v → t ≡ cond b q (make q x) → Laid t v
laid_either true x l e = rw e l
laid_either false x l e = rw e (laid_make l x)

pub laid_once : {q t : List ℕ} {v : View} {before : Bool} {r h n : ℕ} → Laid q v → RoutesOnce q before r h n t → Laid t v
laid_once {before = before} {r = r} {h = h} l o = laid_either before (routed r h nowhere nowhere nowhere) l o.made

-- the attackers destroyed, the defenders destroyed, and nobody
module _ (b : Board) (target : ℕ) (units : List ℕ) (o : Upshot) where
  pub routes_attackers : o.attackers ≡ lost → routes_written b target units o ≡ once_each [] (map b.units.state.hex units)
  unfolding routes_written
  routes_attackers e = simp (eq-eqb o.attackers lost e)

  module _ (d : o.attackers ≡ lost → ⊥) where
    pub routes_target : o.defenders ≡ lost → routes_written b target units o ≡ target ∷ []
    unfolding routes_written
    routes_target e = simp (ne_eqb o.attackers lost d, eq-eqb o.defenders lost e)

    pub routes_none : (o.defenders ≡ lost → ⊥) → routes_written b target units o ≡ []
    unfolding routes_written
    routes_none e = simp (ne_eqb o.attackers lost d, ne_eqb o.defenders lost e)

-- the routes that are written go by where units stand alone
routes_alike : (b c : Board) → scene c ≡ scene b → (target : ℕ) (units : List ℕ) (o : Upshot) → routes_written c target units o ≡ routes_written b target units o
unfolding routes_written
routes_alike b c e target units o =
    ap (λ (x : Scene). cond (eqb o.attackers lost) (once_each [] (map x.hex units)) (cond (eqb o.defenders lost) (target ∷ []) [])) e

-- marks do not matter to the scene
fought_scene : (b c : Board) (us : List ℕ) → scene (changes c (fought_by b us)) ≡ scene c
unfolding fought_by changes
fought_scene b c [] = refl
fought_scene b c (u ∷ us) =
    let x = marked u (with fought (b.units.state.marks u)) in
    fought_scene b (change c x) us ∙ scene_marks c {x = x} still

-- the participants are at least the attackers, and the others are the defenders
pub all_long : (b : Board) (target : ℕ) (units all : List ℕ) → all ≡ participants b target units → length units ≤ length all
unfolding participants
all_long b target units all e = omega (arith, ap length e ∙ length-append units (defenders b target))

pub all_behind : (units all : List ℕ) → take (length all - length units) (drop (length units) all) ≡ drop (length units) all
all_behind units all = take_all (length all - length units) (drop (length units) all) (omega (arith, length-drop (length units) all))

-- all that is written, one after the other
module _ {p : List ℕ} {v : View} (l : Laid p v) (target : ℕ) (units all : List ℕ) (o : Upshot) (need : ℕ) (e : all ≡ participants (board p) target units) where
  pub record Written (q₁ q₂ q₃ q₄ q₅ q₆ : List ℕ) : Type 0 where
    pub turning : q₁ ≡ turned_all p all
    pub marking : MarksAll q₁ all q₂
    pub routing : q₃ ≡ makes q₂ (routed_from 0 (routes_written (board q₂) target units o))
    pub striking : q₄ ≡ makes q₃ (map (suffers o.attackers) units)
    pub standing : q₅ ≡ makes q₄ (map (suffers o.defenders) (drop (length units) all))
    pub staging : q₆ ≡ make q₅ (staged o.stage o.owed need)

  pub all_settled : {q₁ q₂ q₃ q₄ q₅ q₆ : List ℕ} → Written q₁ q₂ q₃ q₄ q₅ q₆ → q₆ ≡ makes (turned_all p all) (battle_changes (board p) target units o need)
  unfolding battle_changes suffered_by participants makes
  all_settled {q₁} {q₂} {q₃} {q₄} {q₅} {q₆} w =
      let b = board p in
      let t = turned_all p all in
      let r = turned_over l all in
      let d : drop (length units) all ≡ defenders b target = ap (drop (length units)) e ∙ drop-append_seam units (defenders b target) in
      let f₁ = fought_by b all in
      let f₂ = routed_from 0 (routes_written b target units o) in
      let f₃ = map (suffers o.attackers) units in
      let f₄ = map (suffers o.defenders) (defenders b target) in
      let x = staged o.stage o.owed need in
      let a₂ : q₂ ≡ makes t f₁ = w.marking.made b (rw w.turning r.likened) ∙ ap (λ (y : List ℕ). makes y f₁) w.turning in
      let s : scene (board q₂) ≡ scene b =
      ap scene (ap board a₂ ∙ board_makes r.laid.shaped f₁) ∙ fought_scene b (board t) all ∙ r.scenes
      in
      let a₃ : q₃ ≡ makes q₂ f₂ = w.routing ∙ ap (λ (y : List ℕ). makes q₂ (routed_from 0 y)) (routes_alike b (board q₂) s target units o) in
      let a₅ : q₅ ≡ makes q₄ f₄ = w.standing ∙ ap (λ (y : List ℕ). makes q₄ (map (suffers o.defenders) y)) d in
      let z₆ : q₆ ≡ makes q₃ ((f₃ ++ f₄) ++ (x ∷ [])) =
      w.staging
      ∙ ap (λ (y : List ℕ). make y x) (a₅ ∙ ap (λ (y : List ℕ). makes y f₄) w.striking ∙ sym (makes_then f₃ f₄ q₃))
      ∙ sym (makes_snoc (f₃ ++ f₄) x q₃)
      in
      z₆
      ∙ ap (λ (y : List ℕ). makes y ((f₃ ++ f₄) ++ (x ∷ []))) a₃
      ∙ sym (makes_then f₂ ((f₃ ++ f₄) ++ (x ∷ [])) q₂)
      ∙ ap (λ (y : List ℕ). makes y (f₂ ++ ((f₃ ++ f₄) ++ (x ∷ [])))) a₂
      ∙ sym (makes_then f₁ (f₂ ++ ((f₃ ++ f₄) ++ (x ∷ []))) t)
      ∙ ap (λ (y : List ℕ). makes t (fought_by b y ++ (f₂ ++ ((f₃ ++ f₄) ++ (x ∷ []))))) e
