-- A series and its copy on a smaller land.
-- Assumes nothing.
use Rattle.std.specs.Prelude.{Option, Some, None}
use Prim.Native.Nat.{ℕ, zero, suc, ◌+◌, ◌≤◌, ◌<◌}
use mathlib.Core.Path.{◌≡◌, refl, sym, ap, ap₂, ◌∙◌}
use mathlib.Core.Bool.{Bool, true, false, not, cond, ◌&&◌, ◌||◌}
use mathlib.Core.List.{List, [], ◌∷◌, ◌++◌, map, map-append}
use native.Mathlib.Omega.{arith}
use lib.Dec.{eqb}
use lib.ListN.{length, length-map}
use borrow.Author.Tests.{eq-eqb, ne_eqb}
use Rattle.position.specs.Tally.{any}
use Rattle.position.specs.Ground.{is_at}
use Rattle.position.proofs.Tallies.{either, same_or, any_same}
use Rattle.position.proofs.Sides.{off_at}
use Rattle.field.specs.Listed.{named}
use Rattle.chains.specs.declared.Stand.{Stand}
use Rattle.chains.specs.Stand.{is_free, is_loose}
use Rattle.chains.specs.Chain.{Stands, rests, yields, leads_to, leads, has_rest, Chain, rest, push, most, after}
use Rattle.chains.specs.Series.{Land, Series, stay, walk, shove}
use Rattle.chains.specs.Follows.{Taken, up_to, wrong, takes, none, by_taken, follows}
use Rattle.chains.specs.Serves.{serves}
use Rattle.chains.specs.Fold.{moved, Folds, Agrees, SeriesThere, SeriesBack, SameSeries, SameSearch, SameTest}
use Rattle.chains.proofs.Chains.{leads_steps}
use Rattle.chains.proofs.Follows.{follows_series, series_follows}
use Rattle.chains.proofs.Serves.{search_right}

-- what a chain takes, on the copy
abbrev moved_taken : (ℕ → ℕ) → Taken → Taken
moved_taken at (up_to y ps) = up_to (at y) (map at ps)
moved_taken at wrong = wrong

-- one push and its copy, by the answers of its tests
push_moved : (at : ℕ → ℕ) (r n i : Bool) (z : ℕ) (zs : List ℕ) (t : Taken)
    → cond r (up_to (at z) (map at zs)) (cond n wrong (cond i (moved_taken at t) wrong))
    ≡ moved_taken at (cond r (up_to z zs) (cond n wrong (cond i t wrong)))
push_moved at true n i z zs t = refl
push_moved at false true i z zs t = refl
push_moved at false false true z zs t = refl
push_moved at false false false z zs t = refl

-- a way and its copy: to a hex, to a hex that passes a test, and the hex that the copy leads to
module _ (at : ℕ → ℕ) where
  is_moved : (z : ℕ) (r : Option ℕ) → ((y : ℕ) → r ≡ Some y → eqb (at y) (at z) ≡ eqb y z) → is_at (moved at r) (at z) ≡ is_at r z
  unfolding is_at moved
  is_moved z (Some y) h = h y refl
  is_moved z None h = refl

  to_moved : (t t' : ℕ → Bool) (r : Option ℕ) → ((y : ℕ) → r ≡ Some y → t' (at y) ≡ t y) → leads_to t' (moved at r) ≡ leads_to t r
  unfolding leads_to moved
  to_moved t t' (Some y) h = h y refl
  to_moved t t' None h = refl

  from_moved : (r : Option ℕ) {z' : ℕ} → moved at r ≡ Some z' → (z : ℕ) × (r ≡ Some z) × (at z ≡ z')
  unfolding moved
  from_moved (Some z) e = (z, refl, cc)
  from_moved None e = off_at refl e

module _ {g g' : Land} {at : ℕ → ℕ} {Near : ℕ → ℕ → Type 0} (f : Folds g g' at Near) where
  -- two hexes are one exactly if their copies are
  module _ (x z : ℕ) (n : Near 6 x) where
    eqb_at : eqb (at x) (at z) ≡ eqb x z
    eqb_at =
        same_or x z
        (λ e. eq-eqb (at x) (at z) (ap at e) ∙ sym (eq-eqb x z e))
        (λ h. ne_eqb (at x) (at z) (λ e. h (sym (f.one x z n (sym e)))) ∙ sym (ne_eqb x z h))

    eqb_at_last : eqb (at z) (at x) ≡ eqb z x
    eqb_at_last =
        same_or z x
        (λ e. eq-eqb (at z) (at x) (ap at e) ∙ sym (eq-eqb z x e))
        (λ h. ne_eqb (at z) (at x) (λ e. h (f.one x z n e)) ∙ sym (ne_eqb z x h))

  -- a copy is named among the copies exactly if the hex is named
  named_at : (used : List ℕ) (x : ℕ) → Near 6 x → named (map at used) (at x) ≡ named used x
  unfolding named
  named_at [] x n = refl
  named_at (y ∷ used) x n = ap₂ ◌||◌ (eqb_at_last x y n) (named_at used x n)

  -- steps lead alike from a hex within five steps and from its copy
  module _ (k h : ℕ) (l : k ≤ 5) (n : Near k h) where
    onto_near : {d z : ℕ} → g.next h d ≡ Some z → Near 6 z
    onto_near {d} {z} e = f.more (suc k) 6 z (f.further k h d z n e) (omega arith)

    way_at : (d : ℕ) → d < 6 → g'.next (at h) d ≡ moved at (g.next h d)
    way_at d m = f.ways h d (f.more k 5 h n l) m

    leads_at : (z : ℕ) → leads g'.next (at h) (at z) ≡ leads g.next h z
    unfolding leads
    leads_at z =
        any_same (λ d. is_at (g'.next (at h) d) (at z)) (λ d. is_at (g.next h d) z) 6
        (λ d m. rw (way_at d m) (is_moved at z (g.next h d) (λ y e. eqb_at y z (onto_near e))))

    reaches_at : (t t' : ℕ → Bool) → ((y : ℕ) → Near 6 y → t' (at y) ≡ t y)
        → any (λ d. leads_to t' (g'.next (at h) d)) 6 ≡ any (λ d. leads_to t (g.next h d)) 6
    reaches_at t t' q =
        any_same (λ d. leads_to t' (g'.next (at h) d)) (λ d. leads_to t (g.next h d)) 6
        (λ d m. rw (way_at d m) (to_moved at t t' (g.next h d) (λ y e. q y (onto_near e))))

    -- the hex that a step of the copy is the copy of
    step_back : {h' d z' : ℕ} → at h ≡ h' → d < 6 → g'.next h' d ≡ Some z' → (z : ℕ) × (at z ≡ z') × Near (suc k) z
    step_back {d = d} q m e =
        let r = from_moved at (g.next h d) (sym (way_at d m) ∙ ap (λ (v : ℕ). g'.next v d) q ∙ e) in
        (r.0, r.2, f.further k h d r.0 n r.1)

  module _ {s s' : Stands} (w : Agrees at Near s s') where
    rests_at : (used : List ℕ) (z : ℕ) → Near 6 z → rests s' (map at used) (at z) ≡ rests s used z
    unfolding rests
    rests_at used z n = ap₂ (λ (q : Stand) (v : Bool). is_free q && not v) (w.same z n) (named_at used z n)

    yields_at : (used : List ℕ) (z : ℕ) → Near 6 z → yields s' (map at used) (at z) ≡ yields s used z
    unfolding yields
    yields_at used z n = ap₂ (λ (q : Stand) (v : Bool). is_loose q && not v) (w.same z n) (named_at used z n)

    has_rest_at : (used : List ℕ) (k h : ℕ) → k ≤ 5 → Near k h
        → has_rest g'.next s' (map at used) (at h) ≡ has_rest g.next s used h
    unfolding has_rest
    has_rest_at used k h l n = reaches_at k h l n (rests s used) (rests s' (map at used)) (rests_at used)

    -- the stands agree again when a chain is done
    after_at : (x y : ℕ) → Agrees at Near (after s x y) (after s' (at x) (at y))
    unfolding after
    after_at x y = record { same = λ h n. rw (eqb_at h y n, eqb_at h x n, w.same h n) refl }

    -- a chain takes the copies of what it takes
    takes_at : (used : List ℕ) (left k h : ℕ) (ps : List ℕ) → k + left ≤ 6 → Near k h
        → takes g'.next s' (map at used) left (at h) (map at ps) ≡ moved_taken at (takes g.next s used left h ps)
    unfolding takes
    takes_at used left k h [] l n = refl
    takes_at used zero k h (z ∷ zs) l n = refl
    takes_at used (suc left) k h (z ∷ zs) l n =
        either (leads g.next h z)
        (λ e.
        let q = leads_steps g.next h z e in
        let m = f.further k h q.dir z n q.way in
        let v = f.more (suc k) 6 z m (omega arith) in
        rw (
          leads_at k h (omega arith) n z,
          e,
          rests_at (h ∷ used) z v,
          has_rest_at (h ∷ used) k h (omega arith) n,
          yields_at (h ∷ used) z v,
          takes_at (h ∷ used) left (suc k) z zs (omega arith) m,
        )
        (push_moved at (rests s (h ∷ used) z) (has_rest g.next s (h ∷ used) h) (yields s (h ∷ used) z) z zs
        (takes g.next s (h ∷ used) left z zs)))
        (λ e. simp (leads_at k h (omega arith) n z, e))

  -- pushes are left over exactly if their copies are
  none_at : (ps : List ℕ) → none (map at ps) ≡ none ps
  none_at [] = refl
  none_at (p ∷ ps) = refl

  -- what is left is followed alike after a chain and after its copy
  taken_at : (on on' : ℕ → List ℕ → Bool) → ((y : ℕ) (qs : List ℕ) → on' (at y) (map at qs) ≡ on y qs) → (t : Taken)
      → by_taken on' (moved_taken at t) ≡ by_taken on t
  taken_at on on' h (up_to y qs) = h y qs
  taken_at on on' h wrong = refl

  -- and the test answers alike
  follows_at : {s s' : Stands} → Agrees at Near s s' → (i a : ℕ) (route ps : List ℕ) → i + length route ≤ 3 → Near i a
      → follows g' s' i (at a) (map at route) (map at ps) ≡ follows g s i a route ps
  unfolding follows
  follows_at {s = s} {s' = s'} w i a [] ps l n = none_at ps
  follows_at {s = s} {s' = s'} w i a (x ∷ route) ps l n =
      either (leads g.next a x)
      (λ e.
      let q = leads_steps g.next a x e in
      let m = f.further i a q.dir x n q.way in
      let v = f.more (suc i) 6 x m (omega arith) in
      rw (
        leads_at i a (omega arith) n x,
        e,
        f.far x v,
        w.same x v,
        takes_at w (a ∷ []) most (suc i) x ps (omega arith) m,
        follows_at {s = s} {s' = s'} w (suc i) x route ps (omega arith) m,
        taken_at (λ y qs. follows g (after s x y) (suc i) x route qs)
            (λ y qs. follows g' (after s' (at x) y) (suc i) (at x) (map at route) qs)
            (λ y qs. follows_at {s = after s x y} {s' = after s' (at x) (at y)} (after_at w x y) (suc i) x route qs (omega arith) m)
            (takes g.next s (a ∷ []) most x ps),
      )
      refl)
      (λ e. simp (leads_at i a (omega arith) n x, e))

  -- the hexes that a chain and a series of the copy are copies of
  chain_back : {s' : Stands} {used' zs' : List ℕ} {left h' y' : ℕ} → Chain g'.next s' used' left h' zs' y' → (k h : ℕ) → at h ≡ h'
      → k + left ≤ 6 → Near k h → (zs : List ℕ) × (map at zs ≡ zs')
  chain_back (rest {left = left} d m e r) k h q l n =
      let b = step_back k h (omega arith) n q m e in
      (b.0 ∷ [], ap (λ (z : ℕ). z ∷ []) b.1)
  chain_back (push {left = left} d m e o i c) k h q l n =
      let b = step_back k h (omega arith) n q m e in
      let r = chain_back c (suc k) b.0 b.1 (omega arith) b.2 in
      (b.0 ∷ r.0, ap₂ ◌∷◌ b.1 r.1)

  series_back : {s' : Stands} {i a' : ℕ} {route' ps' : List ℕ} → Series g' s' i a' route' ps' → (a : ℕ) → at a ≡ a'
      → i + length route' ≤ 3 → Near i a → (route : List ℕ) × (ps : List ℕ) × (map at route ≡ route') × (map at ps ≡ ps')
  series_back stay a q l n = ([], [], refl, refl)
  series_back (walk {i = i} d o v k) a q l n =
      let b = step_back i a (omega arith) n q o.dir o.leads in
      let r = series_back k b.0 b.1 (omega arith) b.2 in
      (b.0 ∷ r.0, r.1, ap₂ ◌∷◌ b.1 r.2, r.3)
  series_back (shove {i = i} d o v c k) a q l n =
      let b = step_back i a (omega arith) n q o.dir o.leads in
      let t = chain_back c (suc i) b.0 b.1 (omega arith) b.2 in
      let r = series_back k b.0 b.1 (omega arith) b.2 in
      (b.0 ∷ r.0, t.0 ++ r.1, ap₂ ◌∷◌ b.1 r.2, map-append at t.0 r.1 ∙ ap₂ ◌++◌ t.1 r.3)

-- answers that are yes together are the same
same_answer : (x y : Bool) → (x ≡ true → y ≡ true) → (y ≡ true → x ≡ true) → x ≡ y
same_answer true y f g = sym (f refl)
same_answer false y f g = either y (λ e. g e ∙ sym e) (λ e. sym e)

module _ {g g' : Land} {at : ℕ → ℕ} {Near : ℕ → ℕ → Type 0} (f : Folds g g' at Near) {s s' : Stands} (w : Agrees at Near s s') where
  pub same_test : SameTest g g' at Near s s'
  same_test i a n route pushes l = sym (follows_at f w i a route pushes l n)

  pub series_there : SeriesThere g g' at Near s s'
  series_there i a n route pushes l k =
      follows_series g' s' i (at a) (map at route) (map at pushes) (follows_at f w i a route pushes l n ∙ series_follows g k)

  pub series_original : SeriesBack g g' at Near s s'
  series_original i a n route' pushes' l k =
      let r = series_back f k a refl l n in
      record {
        route = r.0;
        pushes = r.1;
        entered = r.2;
        pushed = r.3;
        series =
            follows_series g s i a r.0 r.1
            (sym (follows_at f w i a r.0 r.1 (omega (arith, ap length r.2, length-map r.0 at)) n)
            ∙ ap₂ (λ (u v : List ℕ). follows g' s' i (at a) u v) r.2 r.3
            ∙ series_follows g' k);
      }

  pub same_series : SameSeries g g' at Near s s'
  same_series n i a h l = (
    λ k.
        record {
          route = map at k.route;
          pushes = map at k.pushes;
          long = length-map k.route at ∙ k.long;
          series = series_there i a h k.route k.pushes (omega (arith, k.long)) k.series;
        },
    λ k.
        let r = series_original i a h k.route k.pushes (omega (arith, k.long)) k.series in
        record {
          route = r.route;
          pushes = r.pushes;
          long = sym (length-map r.route at) ∙ ap length r.entered ∙ k.long;
          series = r.series;
        },
  )

  pub same_search : SameSearch g g' at Near s s'
  same_search u u' n i a h l =
      let r = search_right g u s n i a in
      let r' = search_right g' u' s' n i (at a) in
      let q = same_series n i a h l in
      same_answer (serves g s n i a) (serves g' s' n i (at a)) (λ e. r'.1 (q.0 (r.0 e))) (λ e. r.1 (q.1 (r'.0 e)))
