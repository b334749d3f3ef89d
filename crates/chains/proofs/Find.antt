-- Where the search says that a series exists, the one found is a series; and a series has few pushes, all of them to hexes of the map.
-- Assumes nothing.
use Rattle.std.specs.Prelude.{Option, Some, None}
use Prim.Native.Nat.{ℕ, zero, suc, ◌*◌, ◌≤◌, ◌<◌}
use mathlib.Core.Path.{◌≡◌, refl, sym, ap, subst, ◌∙◌}
use mathlib.Core.Bool.{Bool, true, false, not, cond, ◌&&◌}
use mathlib.Core.List.{List, [], ◌∷◌, ◌++◌}
use native.Mathlib.Omega.{arith}
use native.Mathlib.Decide.{dec_lt}
use lib.Dec.{eqb}
use lib.ListN.{length, length-append, get_or}
use borrow.Author.Tests.{eqb-true, ne_eqb}
use Rattle.position.specs.Tally.{any}
use Rattle.position.specs.Board.{Board}
use Rattle.position.specs.Ground.{standable}
use Rattle.position.proofs.Tallies.{not_both, both_yes, either, same_or}
use Rattle.position.proofs.Sides.{standable_off}
use Rattle.field.specs.Listed.{Charted, named}
use Rattle.routes.specs.Bears.{bears}
use Rattle.chains.specs.declared.Stand.{Stand}
use Rattle.chains.specs.declared.Stand.TheVariants.{Shut, Free, Loose}
use Rattle.chains.specs.Stand.{stand, is_free, is_loose}
use Rattle.chains.specs.Chain.{Ways, Stands, rests, yields, leads_to, leads, has_rest, Chain, rest, push, most, after}
use Rattle.chains.specs.Series.{Land, land_of, Onto, Series, stay, walk, shove, LegalSeries}
use Rattle.chains.specs.Follows.{by_stand}
use Rattle.chains.specs.Serves.{ends_in, on_with, on_over, serves, pushes_serve}
use Rattle.chains.specs.Find.{
  pick,
  step_for,
  push_on,
  chain_to,
  Sought,
  still,
  entering,
  seek_with,
  seek_over,
  seek_at,
  series_of,
  series_for,
  Finds,
  SeriesFound,
  FindRight,
}
use Rattle.chains.proofs.Chains.{leads_steps}

-- where some number passes the test, the one picked does
pub pick_right : (t : ℕ → Bool) (n : ℕ) → any t n ≡ true → (pick t n < n) × (t (pick t n) ≡ true)
unfolding any pick
pick_right t zero e = not_both false e refl
pick_right t (suc n) e =
    either (t n)
    (λ p. let h : pick t (suc n) ≡ n = simp p in (omega arith, ap t h ∙ p))
    (λ p. let h : pick t (suc n) ≡ pick t n = simp p in let k = pick_right t n (simp p at e) in (omega arith, ap t h ∙ k.1))

-- the step for a test that some step's hex passes
record StepRight (t : ℕ → Bool) (next : Ways) (h : ℕ) : Type 0 where
  dir : ℕ
  low : dir < 6
  way : next h dir ≡ step_for t next h
  passes : leads_to t (step_for t next h) ≡ true

step_right : (t : ℕ → Bool) (next : Ways) (h : ℕ) → any (λ d. leads_to t (next h d)) 6 ≡ true → StepRight t next h
unfolding step_for
step_right t next h e =
    let k = pick_right (λ d. leads_to t (next h d)) 6 e in
    record { dir = pick (λ d. leads_to t (next h d)) 6; low = k.0; way = refl; passes = k.1 }

module _ (next : Ways) (s : Stands) where
  module _ (used : List ℕ) (left h y : ℕ) where
    -- a stack to push, from which a chain may end in hex y, and that chain
    abbrev yielding : ℕ → Bool
    yielding z = yields s (h ∷ used) z && ends_in next s (h ∷ used) left z y

    abbrev thence : ℕ → List ℕ
    thence z = chain_to next s (h ∷ used) left z y

    module _ (more : (z : ℕ) → ends_in next s (h ∷ used) left z y ≡ true → Chain next s (h ∷ used) left z (thence z) y) where
      -- the stack in hex h pushes in its turn, to where the step leads
      pushed : has_rest next s (h ∷ used) h ≡ false → (d : ℕ) → d < 6 → (r : Option ℕ) → next h d ≡ r → leads_to yielding r ≡ true
          → Chain next s used (suc left) h (push_on thence r) y
      unfolding leads_to push_on
      pushed n d l None w e = not_both false e refl
      pushed n d l (Some z) w e =
          let b = both_yes (yields s (h ∷ used) z) (ends_in next s (h ∷ used) left z y) e in
          push d l w n b.0 (more z b.1)

      -- the next stack of the chain, by whether this one has a vacant hex
      linked : (n : Bool) → has_rest next s (h ∷ used) h ≡ n
          → cond n (leads next h y && rests s (h ∷ used) y) (any (λ d. leads_to yielding (next h d)) 6) ≡ true
          → Chain next s used (suc left) h (cond n (y ∷ []) (push_on thence (step_for yielding next h))) y
      linked true n e =
          let b = both_yes (leads next h y) (rests s (h ∷ used) y) e in
          let k = leads_steps next h y b.0 in
          rest k.dir k.low k.way b.1
      linked false n e =
          let k = step_right yielding next h e in
          pushed n k.dir k.low (step_for yielding next h) k.way k.passes

  -- where a chain may end in hex y, the pushes found are one that does
  pub chain_found : (used : List ℕ) (left h y : ℕ) → ends_in next s used left h y ≡ true
      → Chain next s used left h (chain_to next s used left h y) y
  unfolding ends_in chain_to
  chain_found used zero h y e = not_both false e refl
  chain_found used (suc left) h y e =
      linked used left h y (λ z. chain_found (h ∷ used) left z y) (has_rest next s (h ∷ used) h) refl e

module _ (g : Land) where
  module _ (s : Stands) (k i a : ℕ)
      (more : (t : Stands) (x : ℕ) → serves g t k (suc i) x ≡ true → Finds g t k (suc i) x (series_of g t k (suc i) x)) where
    -- whether the group can be brought further, and how
    abbrev can : Stands → ℕ → Bool
    can t x = serves g t k (suc i) x

    abbrev then : Stands → ℕ → Sought
    then t x = series_of g t k (suc i) x

    -- the first step, by what the hex entered is
    entered : (d x : ℕ) → Onto g (suc i) a d x → (w : Stand) → s x ≡ w
        → by_stand (can s x) (any (on_with g can s a x) g.hexes) w ≡ true → Finds g s (suc k) i a (seek_over g can then s a x w)
    unfolding on_with seek_over seek_with entering
    entered d x o Shut q e = not_both false e refl
    entered d x o Free q e =
        let r = more s x e in
        record { long = ap suc r.long; series = walk d o q r.series }
    entered d x o Loose q e =
        let y = pick (on_with g can s a x) g.hexes in
        let p = (pick_right (on_with g can s a x) g.hexes e).1 in
        let b = both_yes (ends_in g.next s (a ∷ []) most x y) (can (after s x y) x) p in
        let r = more (after s x y) x b.1 in
        record {
          long = ap suc r.long;
          series = shove d o q (chain_found g.next s (a ∷ []) most x y b.0) r.series;
        }

    -- and by where it leads
    stepped : (d : ℕ) → d < 6 → (r : Option ℕ) → g.next a d ≡ r → leads_to (on_over g can s i a) r ≡ true
        → Finds g s (suc k) i a (seek_at g can then s a r)
    unfolding leads_to on_over seek_at
    stepped d l None w e = not_both false e refl
    stepped d l (Some x) w e =
        let b = both_yes (eqb (g.far x) (suc i)) _ e in
        entered d x (record { dir = l; leads = w; away = eqb-true (g.far x) (suc i) b.0 }) (s x) refl b.1

pub series_found : SeriesFound
unfolding serves series_of still
series_found g s zero i a e = record { long = refl; series = stay }
series_found g s (suc k) i a e =
    let t = on_over g (λ t x. serves g t k (suc i) x) s i a in
    let r = step_right t g.next a e in
    stepped g s k i a (λ t x. series_found g t k (suc i) x) r.dir r.low (step_for t g.next a) r.way r.passes

pub find_right : FindRight
unfolding pushes_serve series_for
find_right b f start n e =
    let r = series_found (land_of b start) (stand b f start) n 0 start e in
    record { long = r.long; series = r.series }

-- a chain pushes at most as many stacks as it may, so a series has at most three pushes for each step
chain_few : {next : Ways} {s : Stands} {used zs : List ℕ} {left h y : ℕ} → Chain next s used left h zs y → length zs ≤ left
chain_few (rest d l e r) = omega arith
chain_few (push d l e n i c) = let k = chain_few c in omega arith

pushes_few : {g : Land} {s : Stands} {i a : ℕ} {route pushes : List ℕ} → Series g s i a route pushes
    → length pushes ≤ 3 * length route
pushes_few stay = omega arith
pushes_few (walk d o f k) = let m = pushes_few k in omega arith
pushes_few (shove {chain = chain} {pushes} d o f c k) =
    let m = pushes_few k in
    omega (arith, length-append chain pushes, chain_few c)

pub series_few : {b : Board} {f start n : ℕ} {route pushes : List ℕ} → n ≤ 3 → LegalSeries b f start n route pushes → length pushes ≤ 9
series_few l k = omega (arith, k.long, pushes_few k.series)

-- P holds of every number of the list
abbrev pub Each : (ℕ → Type 0) → List ℕ → Type 0
Each P l = (i : ℕ) → i < length l → P (get_or l i 0)

-- and of every hex that is not shut
abbrev pub Opens : (ℕ → Type 0) → Stands → Type 0
Opens P s = (z : ℕ) → (s z ≡ Shut → ⊥) → P z

pub free_open : {w : Stand} → is_free w ≡ true → w ≡ Shut → ⊥
free_open {w} e q = not_both (is_free w) e (ap is_free q)

pub loose_open : {w : Stand} → is_loose w ≡ true → w ≡ Shut → ⊥
loose_open {w} e q = not_both (is_loose w) e (ap is_loose q)

module _ (P : ℕ → Type 0) where
  each_none : Each P []
  each_none i l = absurd (omega arith)

  each_first : (x : ℕ) (xs : List ℕ) → P x → Each P xs → Each P (x ∷ xs)
  each_first x xs p k zero l = p
  each_first x xs p k (suc i) l = k i (omega arith)

  each_both : (xs ys : List ℕ) → Each P xs → Each P ys → Each P (xs ++ ys)
  each_both [] ys k m = m
  each_both (x ∷ xs) ys k m =
      each_first x (xs ++ ys) (k 0 (omega arith)) (each_both xs ys (λ i l. k (suc i) (omega arith)) m)

  module _ (s : Stands) (o : Opens P s) where
    rests_open : (used : List ℕ) (z : ℕ) → rests s used z ≡ true → P z
    unfolding rests
    rests_open used z e = o z (free_open (both_yes (is_free (s z)) (not (named used z)) e).0)

    yields_open : (used : List ℕ) (z : ℕ) → yields s used z ≡ true → P z
    unfolding yields
    yields_open used z e = o z (loose_open (both_yes (is_loose (s z)) (not (named used z)) e).0)

    -- a chain that is done opens no hex but its first and its last
    pub open_after : (x y : ℕ) → P x → P y → Opens P (after s x y)
    unfolding after
    open_after x y p q z u =
        same_or z y (λ e. subst P (sym e) q)
        (λ v. same_or z x (λ e. subst P (sym e) p) (λ w. o z (λ c. u (simp (ne_eqb z y v, ne_eqb z x w) c))))

    -- so P holds of the hexes of a chain,
    pub chain_each : {next : Ways} {used zs : List ℕ} {left h y : ℕ} → Chain next s used left h zs y → Each P zs × P y
    chain_each (rest {used} {left} {h} {z} d l e r) =
        let k = rests_open (h ∷ used) z r in
        (each_first z [] k each_none, k)
    chain_each (push {used} {left} {h} {z} {last} {zs} d l e m i c) =
        let k = chain_each c in
        (each_first z zs (yields_open (h ∷ used) z i) k.0, k.1)

  -- and of those of a series
  pub series_each : {g : Land} {s : Stands} {i a : ℕ} {route pushes : List ℕ} → Opens P s → Series g s i a route pushes
      → Each P route × Each P pushes
  series_each o stay = (each_none, each_none)
  series_each o (walk {x = x} {route} d t f k) =
      let m = series_each o k in
      (each_first x route (o x (free_open (ap is_free f))) m.0, m.1)
  series_each o (shove {s} {x = x} {y} {route} {chain} {pushes} d t f c k) =
      let p = o x (loose_open (ap is_loose f)) in
      let q = chain_each s o c in
      let m = series_each (open_after s o x y p q.1) k in
      (each_first x route p m.0, each_both chain pushes q.0 m.1)

module _ (b : Board) (f : ℕ) where
  -- a hex that is not shut bears, and one that bears is on the map
  stand_bears : (start : ℕ) → Opens (λ z. bears b f z ≡ true) (stand b f start)
  unfolding stand
  stand_bears start z u = either (bears b f z) (λ e. e) (λ e. absurd (u (simp e)))

  bears_on : (z : ℕ) → bears b f z ≡ true → z < b.map.hexes
  unfolding bears
  bears_on z e = at (dec_lt z b.map.hexes)
    where
      at : Dec (z < b.map.hexes) → z < b.map.hexes
      at (yes l) = l
      at (no n) = not_both (standable b z) (both_yes (standable b z) _ e).0 (standable_off b z (omega arith))

-- the hexes of a legal series are hexes of the map
pub series_charted :
    {b : Board} {f start n : ℕ} {route pushes : List ℕ} → LegalSeries b f start n route pushes → Charted b route × Charted b pushes
series_charted {b} {f} {start} k =
    series_each (λ z. z < b.map.hexes) (λ z u. bears_on b f z (stand_bears b f start z u)) k.series
