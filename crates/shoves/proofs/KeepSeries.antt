-- A legal series is carried out: the lines on units hold on, the group has no role any more, and who owes elsewhere still does.
-- Assumes nothing.
use Prim.Native.Nat.{ℕ, ◌≤◌, ◌<◌}
use mathlib.Core.Path.{◌≡◌, refl, sym, ap, subst, ◌∙◌}
use mathlib.Core.List.{List, [], ◌∷◌, ◌++◌}
use native.Mathlib.Omega.{arith}
use borrow.Author.Tests.{eq-eqb, ne_eqb}
use Rattle.position.specs.Board.{Board, nowhere}
use Rattle.position.specs.Crowd.{owes_at}
use Rattle.position.specs.Effect.{changes}
use Rattle.position.specs.Role as Role
use Rattle.position.proofs.Tallies.{either, same_or}
use Rattle.acceptance.proofs.Carries.{changes_then, force_by}
use Rattle.acceptance.proofs.Since.{Since}
use Rattle.acceptance.proofs.Stills.{fixed_trans}
use Rattle.field.proofs.Named.{named_here}
use Rattle.chains.specs.declared.Stand.TheVariants.{Free, Loose}
use Rattle.chains.specs.Stand.{stand}
use Rattle.chains.specs.Chain.{Stands, Chain, most, after}
use Rattle.chains.specs.Series.{Land, Series, stay, walk, shove}
use Rattle.shoves.specs.Shoves.{clears, group_to, marches}
use Rattle.shoves.proofs.KeepChain.{Pushes, bears_stands, chain_clears, chain_other, clears_vacant, real_hex}
use Rattle.shoves.proofs.KeepEnds.{Left, all_freed}
use Rattle.shoves.proofs.KeepStep.{OwnGroup, Stepped, stepped}
use Rattle.shoves.proofs.Standing.{free_is, free_vacant}

-- a step, and what comes after it
after_step_lem : {o b c d : Board} {f a x : ℕ} → Stepped o b f a x c → Left o c x d → Left o b a d
after_step_lem {o} {b} {c} {d} {f} {a} {x} s y =
    record {
      since = y.since;
      fixed = fixed_trans s.fixed y.fixed;
      desk = y.desk ∙ s.desk;
      gone =
          λ w l e.
          either (owes_at c x w)
          (λ i. y.gone w (on w l) i)
          (λ i. y.roles w (on w l) i ∙ s.gone w l e i);
      roles = λ w l e. y.roles w (on w l) (s.left w l e) ∙ (s.kept w e).role;
      still = λ w l e i. y.still w (on w l) (s.left w l e) ((s.kept w e).role ∙ i) ∙ (s.kept w e).hex;
    }
  where
    on : (w : ℕ) → w < b.units.count → w < c.units.count
    on w l = omega (arith, s.fixed.count)

-- pushes do not touch the group
pub pushes_owes : {o b c : Board} {f : ℕ} → Pushes o b f c → (a w : ℕ) → w < b.units.count → owes_at c a w ≡ owes_at b a w
unfolding owes_at
pushes_owes {b = b} x a w l =
    same_or (b.units.state.role w) Role.owes
    (λ e. simp (x.roles w l, x.still w l e))
    (λ e. simp (x.roles w l, ne_eqb (b.units.state.role w) Role.owes e))

-- and what comes after them
after_pushes : {o b c d : Board} {f a : ℕ} → Pushes o b f c → Left o c a d → Left o b a d
after_pushes {o} {b} {c} {d} {f} {a} s y =
    record {
      since = y.since;
      fixed = fixed_trans s.fixed y.fixed;
      desk = y.desk ∙ s.desk;
      gone = λ w l e. y.gone w (on w l) (pushes_owes s a w l ∙ e);
      roles = λ w l e. y.roles w (on w l) (pushes_owes s a w l ∙ e) ∙ s.roles w l;
      still = λ w l e i. y.still w (on w l) (pushes_owes s a w l ∙ e) (s.roles w l ∙ i) ∙ s.still w l i;
    }
  where
    on : (w : ℕ) → w < b.units.count → w < c.units.count
    on w l = omega (arith, s.fixed.count)

-- pushes leave the group of one force
pub pushes_own : {o b c : Board} {f : ℕ} (a : ℕ) → Pushes o b f c → OwnGroup b f a → OwnGroup c f a
pushes_own {b = b} a s m w l e =
    let k : w < b.units.count = omega (arith, s.fixed.count) in
    force_by s.fixed w ∙ m w k (sym (pushes_owes s a w k) ∙ e)

-- the hex entered is free once its stack has gone elsewhere
pub emptied : (s : Stands) (x y : ℕ) → (x ≡ y → ⊥) → after s x y x ≡ Free
unfolding after
emptied s x y n = simp (ne_eqb x y n, eq-eqb x x refl)

-- the changes of a step, one part after another
pub march_on :
    (b : Board) (a x : ℕ) (route ps : List ℕ)
    → changes b (marches b a (x ∷ route) ps)
    ≡ (let r = clears b x ps in
    let c = changes b r.done in
    let d = changes c (group_to c a x) in
    changes d (marches d x route r.left))
unfolding marches
march_on b a x route ps =
    let r = clears b x ps in
    let c = changes b r.done in
    let xs = group_to c a x in
    changes_then r.done (xs ++ marches (changes c xs) x route r.left) b
    ∙ changes_then xs (marches (changes c xs) x route r.left) c

pub series_left :
    {o : Board} {g : Land} {b : Board} {s : Stands} {i a : ℕ} {route pushes : List ℕ} (f : ℕ) → o.map.hexes ≤ nowhere → Since o b
    → (a ≡ nowhere → ⊥) → OwnGroup b f a → g.far a ≡ i → Series g s i a route pushes → stand b f a ≡ s
    → Left o b a (changes b (marches b a route pushes))
unfolding marches changes
series_left {a = a} f small k real mine z stay e = all_freed small a k
series_left {o} {g} {b} {s} {i} {a} f small k real mine z (walk {x = x} {route = route} {pushes = ps} d t y n) e =
    let here : stand b f a x ≡ Free = ap (λ (q : Stands). q x) e ∙ y in
    let free = free_is b f a x here in
    let v = free_vacant b f a x (λ q. omega (arith, t.away, z, ap g.far q)) free in
    let c = stepped k small f a x real mine v free.bear in
    rw (march_on b a x route ps, clears_vacant b x v ps)
    (after_step_lem c
    (series_left {b = changes b (group_to b a x)} f small c.since (real_hex k small f a x (bears_stands b f x free.bear)) c.own t.away n (c.stands ∙ e)))
series_left {o} {g} {b} {s} {i} {a} f small k real mine z (shove {x = x} {y = y} {route = route} {chain = zs} {pushes = ps} d t l h n) e =
    let here : stand b f a x ≡ Loose = ap (λ (q : Stands). q x) e ∙ l in
    let off : x ≡ a → ⊥ = λ q. omega (arith, t.away, z, ap g.far q) in
    let r = clears b x (zs ++ ps) in
    let h' = subst (λ (p : Stands). Chain g.next p (a ∷ []) most x zs y) (sym e) h in
    let q = chain_clears k small f a h' (named_here a [] a refl) off here ps in
    let u = q.shifted.pushes in
    let b' = changes b r.done in
    let free : stand b' f a x ≡ Free = ap (λ (p : Stands). p x) q.shifted.stands ∙ emptied (stand b f a) x y (chain_other h' here) in
    let c = stepped u.since small f a x real (pushes_own a u mine) q.shifted.empty (free_is b' f a x free).bear in
    rw (march_on b a x route (zs ++ ps), q.left_over)
    (after_pushes u
    (after_step_lem c
    (series_left {b = changes b' (group_to b' a x)} f small c.since (real_hex u.since small f a x (bears_stands b' f x (free_is b' f a x free).bear)) c.own t.away n
    (c.stands ∙ q.shifted.stands ∙ ap (λ (p : Stands). after p x y) e))))
