-- The search finds the first legal route, and nothing only where there is none.
-- Assumes nothing.
use Rattle.std.specs.Prelude.{Option, Some, None}
use Prim.Native.Nat.{ℕ, zero, suc, ◌+◌, ◌≤◌, ◌<◌}
use mathlib.Core.Path.{◌≡◌, refl, sym, ap, subst}
use mathlib.Core.List.{List, [], ◌∷◌, ◌++◌, append_assoc}
use mathlib.Core.Bool.{true, false}
use native.Mathlib.Omega.{arith}
use native.Mathlib.Decide.{ℕ_discrete}
use mathlib.Core.Logic.{◌↔◌}
use lib.ListN.{length}
use Rattle.position.specs.Board.{Board}
use Rattle.position.proofs.Tallies.{not_both}
use Rattle.routes.specs.Run.{Step, Run, stay, go, LegalRoute, RouteExists}
use Rattle.routes.specs.Search.{
  step_of,
  or_else,
  first_of,
  search_beyond,
  route_of,
  go_on,
  first_route,
  headings,
  NotAfter,
  same,
  sooner,
  later,
  Searched,
  found,
  FirstRight,
  FoundRight,
}
use Rattle.position.proofs.Sides.{off_at, next_dir}
use Rattle.routes.proofs.Steps.{step_is, is_step}

module _ (b : Board) (f start : ℕ) where
  -- a run of `left` hexes that goes on from hex a after i steps
  pub record Way (i left a : ℕ) : Type 0 where
    pub route : List ℕ
    pub long : length route ≡ left
    pub last : ℕ
    pub run : Run b f start i a route last

  abbrev heads : {i left a : ℕ} → Way i left a → List ℕ
  heads w = headings w.run

  -- the same, with its first step apart
  record Turn (i left a : ℕ) : Type 0 where
    pub dir : ℕ
    pub hex : ℕ
    pub step : Step b f start i a dir hex
    pub way : Way (suc i) left hex

  abbrev turns : {i left a : ℕ} → Turn i left a → List ℕ
  turns t = t.dir ∷ heads t.way

  -- what an answer says of the runs from hex a, with the hexes passed before it
  abbrev Answer : ℕ → ℕ → List ℕ → ℕ → Option (ℕ × ℕ × ℕ) → Type 0
  Answer i left past a (Some (x, y, z)) =
      (w : Way i left a) × (route_of (past ++ w.route) ≡ Some (x, y, z)) × ((u : Way i left a) → NotAfter (heads w) (heads u))
  Answer i left past a None = Way i left a → ⊥

  -- and of those that begin in direction d or a later one
  abbrev AnswerFrom : ℕ → ℕ → List ℕ → ℕ → ℕ → Option (ℕ × ℕ × ℕ) → Type 0
  AnswerFrom i left past a d (Some (x, y, z)) =
      (t : Turn i left a)
      × (d ≤ t.dir)
      × (route_of (past ++ (t.hex ∷ t.way.route)) ≡ Some (x, y, z))
      × ((u : Turn i left a) → d ≤ u.dir → NotAfter (turns t) (turns u))
  AnswerFrom i left past a d None = (u : Turn i left a) → d ≤ u.dir → ⊥

  abbrev search : ℕ → ℕ → List ℕ → ℕ → Option (ℕ × ℕ × ℕ)
  search i left past x = go_on b f start (suc i) left (past ++ (x ∷ [])) x

  abbrev tries : ℕ → ℕ → List ℕ → ℕ → ℕ → Option (ℕ × ℕ × ℕ)
  tries i left past a d = search_beyond (search i left past) (step_of b f start i a d)

  module _ (i left : ℕ) (past : List ℕ) (a d : ℕ) where
    -- a direction that has nothing can be passed
    pass : ((u : Turn i left a) → u.dir ≡ d → ⊥) → (y : Option (ℕ × ℕ × ℕ)) → AnswerFrom i left past a (suc d) y → AnswerFrom i left past a d y
    pass bad (Some (x, y, z)) r = (r.0, omega (arith, r.1), r.2, λ u l. at u l (ℕ_discrete u.dir d))
      where
        at : (u : Turn i left a) → d ≤ u.dir → Dec (u.dir ≡ d) → NotAfter (turns r.0) (turns u)
        at u l (yes e) = absurd (bad u e)
        at u l (no e) = r.3 u (omega arith)
    pass bad None r = λ u l. at u l (ℕ_discrete u.dir d)
      where
        at : (u : Turn i left a) → d ≤ u.dir → Dec (u.dir ≡ d) → ⊥
        at u l (yes e) = bad u e
        at u l (no e) = r u (omega arith)

    -- a step in this direction leads to one hex
    at_hex : {x : ℕ} → step_of b f start i a d ≡ Some x → (u : Turn i left a) → u.dir ≡ d → u.hex ≡ x
    at_hex e u q =
        let h : step_of b f start i a d ≡ Some u.hex = rw q at (is_step b f start i a u.dir u.hex u.step) in
        cc

    -- the direction's own answer, and else that of the later ones
    one : (x : ℕ) → step_of b f start i a d ≡ Some x → (y : Option (ℕ × ℕ × ℕ)) → Answer (suc i) left (past ++ (x ∷ [])) x y
        → (z : Option (ℕ × ℕ × ℕ)) → AnswerFrom i left past a (suc d) z → AnswerFrom i left past a d (or_else y z)
    one x e (Some (x1, x2, x3)) r z q = (
      record { dir = d; hex = x; step = step_is b f start i a d x e; way = r.0 },
      omega arith,
      rw append_assoc at r.1,
      λ u l. at u l (ℕ_discrete u.dir d),
    )
      where
        at : (u : Turn i left a) → d ≤ u.dir → Dec (u.dir ≡ d) → NotAfter (d ∷ heads r.0) (turns u)
        at u l (yes h) =
            subst (λ (k : ℕ). NotAfter (d ∷ heads r.0) (k ∷ heads u.way)) (sym h)
            (later (subst (λ (k : ℕ). (w : Way (suc i) left k) → NotAfter (heads r.0) (heads w)) (sym (at_hex e u h)) r.2 u.way))
        at u l (no h) = let m : d < u.dir = omega arith in sooner m
    one x e None r z q = pass (λ u h. r (subst (λ (k : ℕ). Way (suc i) left k) (at_hex e u h) u.way)) z q

    turn : ((x : ℕ) → Answer (suc i) left (past ++ (x ∷ [])) x (search i left past x))
        → (t : Option ℕ) → step_of b f start i a d ≡ t → (z : Option (ℕ × ℕ × ℕ)) → AnswerFrom i left past a (suc d) z
        → AnswerFrom i left past a d (or_else (search_beyond (search i left past) t) z)
    turn g (Some x) e z q = one x e (search i left past x) (g x) z q
    turn g None e z q = pass (λ u h. off_at e (rw h at (is_step b f start i a u.dir u.hex u.step))) z q

  module _ (i left : ℕ) (past : List ℕ) (a : ℕ) where
    all_turns : ((x : ℕ) → Answer (suc i) left (past ++ (x ∷ [])) x (search i left past x)) → (k d : ℕ) → k + d ≡ 6
        → AnswerFrom i left past a d (first_of k d (tries i left past a))
    unfolding first_of
    all_turns g zero d e = λ u l. omega (arith, next_dir b.map a u.dir u.hex u.step.leads)
    all_turns g (suc k) d e =
        turn i left past a d g (step_of b f start i a d) refl (first_of k (suc d) (tries i left past a)) (all_turns g k (suc d) (omega arith))

    apart : {last : ℕ} {route : List ℕ} (k : Run b f start i a route last) → length route ≡ suc left
        → (t : Turn i left a) × (headings k ≡ turns t)
    apart stay e = absurd (omega arith)
    apart (go {i} {a} {x} {last} {route} d s k) e =
        (record { dir = d; hex = x; step = s; way = record { route = route; long = omega arith; last = last; run = k } }, refl)

    whole : (y : Option (ℕ × ℕ × ℕ)) → AnswerFrom i left past a 0 y → Answer i (suc left) past a y
    whole (Some (x, y, z)) r =
        let t = r.0 in (
          record { route = t.hex ∷ t.way.route; long = ap suc t.way.long; last = t.way.last; run = go t.dir t.step t.way.run },
          r.2,
          λ u.
              let k = apart u.run u.long in
              subst (λ (ds : List ℕ). NotAfter (turns t) ds) (sym k.1) (r.3 k.0 (omega arith)),
        )
    whole None r = λ u. r (apart u.run u.long).0 (omega arith)

  none_heads : {i a last : ℕ} {route : List ℕ} (k : Run b f start i a route last) → length route ≡ 0 → NotAfter [] (headings k)
  none_heads stay e = same
  none_heads (go d s k) e = absurd (omega arith)

  append_none : (l : List ℕ) → l ++ [] ≡ l
  append_none [] = refl
  append_none (x ∷ l) = ap (λ (r : List ℕ). x ∷ r) (append_none l)

  answer : (i left : ℕ) (past : List ℕ) (a : ℕ) → Answer i left past a (go_on b f start i left past a)
  unfolding go_on
  answer i zero past a =
      (record { route = []; long = refl; last = a; run = stay }, ap route_of (append_none past), λ u. none_heads u.run u.long)
  answer i (suc left) past a =
      whole i left past a (first_of 6 0 (tries i left past a)) (all_turns i left past a (λ x. answer (suc i) left (past ++ (x ∷ [])) x) 6 0 refl)

  way_of : (n : ℕ) (route : List ℕ) → LegalRoute b f start n route → Way 0 n start
  way_of n route l = record { route = route; long = l.long; last = l.last; run = l.run }

pub first_right : FirstRight
unfolding first_route way_of
first_right b f start n = say (first_route b f start n) (answer b f start 0 n [] start)
  where
    say : (y : Option (ℕ × ℕ × ℕ)) → Answer b f start 0 n [] start y → Searched b f start n y
    say (Some (x, y, z)) r = (
      r.0.route,
      record {
        legal = record { long = r.0.long; last = r.0.last; run = r.0.run };
        first = λ other l. r.2 (way_of b f start n other l);
      },
      r.1,
    )
    say None r = λ k. r (way_of b f start n k.0 k.1)

pub found_right : FoundRight
found_right b f start n = say (first_route b f start n) (first_right b f start n)
  where
    say : (y : Option (ℕ × ℕ × ℕ)) → Searched b f start n y → (found y ≡ true) ↔ RouteExists b f start n
    say (Some (x, y, z)) r = (λ e. (r.0, r.1.legal), λ k. refl)
    say None r = (λ e. not_both false e refl, λ k. absurd (r k))
