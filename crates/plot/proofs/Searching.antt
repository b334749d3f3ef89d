-- Laws of the search on a plot.
-- Assumes nothing.
use Rattle.std.specs.Prelude.{Some, None}
use Prim.Native.Nat.{ℕ, suc, ◌+◌, ◌-◌, ◌<◌, ◌≤◌}
use mathlib.Core.Path.{◌≡◌, refl, sym, ap, ◌∙◌}
use mathlib.Core.Bool.{Bool, true, false, and-true}
use mathlib.Core.List.{List, [], ◌∷◌}
use native.Mathlib.Omega.{arith}
use native.Mathlib.Numerals.{add-one}
use borrow.Author.Tests.{eq-eqb, ne_eqb}
use lib.ListN.{length, set, replicate, length-replicate}
use Rattle.grid.specs.Walk.{distance_of}
use Rattle.grid.specs.Map.{On}
use Rattle.position.specs.Layout.{byte}
use Rattle.position.specs.Tally.{any}
use Rattle.position.proofs.Tallies.{any_miss, any_true, any_same}
use Rattle.position.proofs.Cells.{byte_empty}
use Rattle.chains.specs.declared.Stand.TheVariants.{Shut, Free, Loose}
use Rattle.chains.specs.Chain.{leads_to, most}
use Rattle.chains.specs.Follows.{by_stand}
use Rattle.chains.specs.Serves.{ends_in, on_with, on_over, serves}
use Rattle.plot.specs.Plot.{places, stand_in, next_in, land_in, shifted, wide, high}
use Rattle.plot.specs.Ends.{Blank, Marks, end_marked, room}
use Rattle.plot.specs.Search.{further, serves_in, over_in, with_in, shoves_in}
use Rattle.plot.proofs.Ends.{ended}
use Rattle.plot.proofs.Plots.{shifted_back, shifted_stands, shifted_ways}

-- a place of the plot is a hex of its map
pub on_plot : (i : ℕ) → i < places → On wide high i
on_plot i l = record { wide = omega arith; wide64 = omega arith; high = omega arith; high64 = omega arith; below = omega arith }

-- the group goes on over the place beside place a in direction d
unfoldable pub over_beside : ℕ → List ℕ → ℕ → ℕ → ℕ → ℕ → Bool
over_beside home l k i a d = leads_to (over_in home l k i a) (next_in l a d)

module _ (home : ℕ) (l : List ℕ) (k i a : ℕ) where
  pub serves_done : k ≡ 0 → serves_in home l k i a ≡ true
  unfolding serves_in serves
  serves_done e = rw e

  pub serves_last : k ≡ 1 → serves_in home l 1 i a ≡ serves_in home l k i a
  serves_last e = ap (λ (n : ℕ). serves_in home l n i a) (sym e)

  more : (n : ℕ) → serves_in home l (suc n) i a ≡ any (over_beside home l n i a) 6
  unfolding serves_in serves over_beside over_in further land_in
  more n = refl

  pub serves_more : (k ≡ 0 → ⊥) → serves_in home l k i a ≡ any (over_beside home l (k - 1) i a) 6
  serves_more h = let e : k ≡ suc (k - 1) = omega arith in ap (λ (n : ℕ). serves_in home l n i a) e ∙ more (k - 1)

  pub beside_at : (n d x : ℕ) → next_in l a d ≡ Some x → over_beside home l n i a d ≡ over_in home l n i a x
  unfolding over_beside leads_to
  beside_at n d x e = rw e

  pub beside_off : (n d : ℕ) → next_in l a d ≡ None → over_beside home l n i a d ≡ false
  unfolding over_beside leads_to
  beside_off n d e = rw e

module _ (home : ℕ) (l : List ℕ) (k i a x : ℕ) where
  pub over_far : (distance_of wide home x ≡ i + 1 → ⊥) → over_in home l k i a x ≡ false
  unfolding over_in on_over land_in
  over_far h = simp (ne_eqb (distance_of wide home x) (suc i) (λ e. h (e ∙ sym (add-one i))))

  by_stand_lem :
      distance_of wide home x ≡ i + 1
      → over_in home l k i a x ≡ by_stand (serves_in home l k (i + 1) x) (shoves_in home l k i a x) (stand_in l x)
  unfolding over_in on_over land_in serves_in shoves_in with_in further
  by_stand_lem e = rw (add-one i) (simp (eq-eqb (distance_of wide home x) (suc i) (e ∙ add-one i)))

  pub over_shut : distance_of wide home x ≡ i + 1 → stand_in l x ≡ Shut → over_in home l k i a x ≡ false
  over_shut e s = by_stand_lem e ∙ ap (by_stand (serves_in home l k (i + 1) x) (shoves_in home l k i a x)) s

  pub over_free : distance_of wide home x ≡ i + 1 → stand_in l x ≡ Free → over_in home l k i a x ≡ serves_in home l k (i + 1) x
  over_free e s = by_stand_lem e ∙ ap (by_stand (serves_in home l k (i + 1) x) (shoves_in home l k i a x)) s

  pub over_loose : distance_of wide home x ≡ i + 1 → stand_in l x ≡ Loose → over_in home l k i a x ≡ shoves_in home l k i a x
  over_loose e s = by_stand_lem e ∙ ap (by_stand (serves_in home l k (i + 1) x) (shoves_in home l k i a x)) s

  -- as a last step it asks only for a chain at all
  pub last_free : distance_of wide home x ≡ i + 1 → stand_in l x ≡ Free → k ≡ 0 → over_in home l k i a x ≡ true
  last_free e s z = over_free e s ∙ serves_done home l k (i + 1) x z

  pub last_loose :
      distance_of wide home x ≡ i + 1 → stand_in l x ≡ Loose → k ≡ 0 → (trail : List ℕ) → trail ≡ a ∷ []
      → over_in home l k i a x ≡ any (ends_in (next_in l) (stand_in l) trail 3 x) places
  unfolding shoves_in with_in on_with land_in further serves
  last_loose e s z trail t =
      over_loose e s ∙ rw z (rw t (any_same _ _ places (λ y b. and-true (ends_in (next_in l) (stand_in l) (a ∷ []) 3 x y))))

  pub with_no : (y : ℕ) → ends_in (next_in l) (stand_in l) (a ∷ []) most x y ≡ false → with_in home l k i a x y ≡ false
  unfolding with_in on_with land_in
  with_no y e = simp e

  pub with_yes :
      (y : ℕ) → length l ≡ places → x < places → y < places → ends_in (next_in l) (stand_in l) (a ∷ []) most x y ≡ true
      → with_in home l k i a x y ≡ serves_in home (shifted l x y) k (i + 1) x
  unfolding with_in on_with land_in further serves_in
  with_yes y long p q e = rw (add-one i) (simp (e, shifted_stands l x y long p q, shifted_ways l x y long p q))

-- the plot is as it was, and no series goes over a place beside place a in the directions before d
pub record Unserved (home : ℕ) (l : List ℕ) (k i a : ℕ) (m : List ℕ) (d : ℕ) : Type 0 where
  pub same : m ≡ l
  pub most : d ≤ 6
  pub none : any (over_beside home l (k - 1) i a) d ≡ false

module _ {home : ℕ} {l : List ℕ} {k i a : ℕ} {m : List ℕ} {d : ℕ} (u : Unserved home l k i a m d) where
  -- there is nothing in direction d; or a place over which none goes; or one over which one does
  pub unserved_off : d < 6 → next_in m a d ≡ None → Unserved home l k i a m (d + 1)
  unserved_off b e =
      let f = beside_off home l k i a (k - 1) d (ap (λ (q : List ℕ). next_in q a d) (sym u.same) ∙ e) in
      record { same = u.same; most = omega arith; none = any_miss _ _ f ∙ u.none }

  over-at : (x : ℕ) → next_in m a d ≡ Some x → over_beside home l (k - 1) i a d ≡ over_in home m (k - 1) i a x
  over-at x e =
      beside_at home l k i a (k - 1) d x (ap (λ (q : List ℕ). next_in q a d) (sym u.same) ∙ e)
      ∙ ap (λ (q : List ℕ). over_in home q (k - 1) i a x) (sym u.same)

  pub unserved_over :
      {x : ℕ} {n : List ℕ} → d < 6 → next_in m a d ≡ Some x → over_in home m (k - 1) i a x ≡ false → n ≡ m → Unserved home l k i a n (d + 1)
  unserved_over {x} b e f g =
      record { same = g ∙ u.same; most = omega arith; none = any_miss _ _ (over-at x e ∙ f) ∙ u.none }

  pub served :
      {x : ℕ} → (k ≡ 0 → ⊥) → d < 6 → next_in m a d ≡ Some x → over_in home m (k - 1) i a x ≡ true → serves_in home l k i a ≡ true
  served {x} h b e f = serves_more home l k i a h ∙ any_true _ 6 d b (over-at x e ∙ f)

  pub unserved : (k ≡ 0 → ⊥) → 6 ≤ d → serves_in home l k i a ≡ false
  unserved h b =
      let e : 6 ≡ d = omega (arith, u.most) in
      serves_more home l k i a h ∙ ap (any (over_beside home l (k - 1) i a)) e ∙ u.none

-- the plot is as it was, the marks say where a chain from place x ends, and no series goes on with one that ends in a place before y
pub record Unended (home : ℕ) (l ends : List ℕ) (k i a x : ℕ) (m : List ℕ) (y : ℕ) : Type 0 where
  pub same : m ≡ l
  pub long : length l ≡ places
  pub inside : x < places
  pub told : (z : ℕ) → z < places → end_marked ends x z ≡ ends_in (next_in l) (stand_in l) (a ∷ []) 3 x z
  pub most : y ≤ places
  pub none : any (with_in home l k i a x) y ≡ false

module _ {home : ℕ} {l ends : List ℕ} {k i a x : ℕ} {m : List ℕ} {y : ℕ} (u : Unended home l ends k i a x m y) where
  -- no chain ends in place y; or one, with which no series goes on; or with which one does
  pub unended_not : y < places → end_marked ends x y ≡ false → Unended home l ends k i a x m (y + 1)
  unended_not b e =
      let f = with_no home l k i a x y (sym (u.told y b) ∙ e) in
      record { same = u.same; long = u.long; inside = u.inside; told = u.told; most = omega arith; none = any_miss _ _ f ∙ u.none }

  with_at :
      y < places → end_marked ends x y ≡ true
      → with_in home l k i a x y ≡ serves_in home (shifted m x y) k (i + 1) x
  with_at b e =
      with_yes home l k i a x y u.long u.inside b (sym (u.told y b) ∙ e)
      ∙ ap (λ (q : List ℕ). serves_in home (shifted q x y) k (i + 1) x) (sym u.same)

  pub unended_with :
      {n : List ℕ} → y < places → end_marked ends x y ≡ true
      → serves_in home (shifted m x y) k (i + 1) x ≡ false → n ≡ m → Unended home l ends k i a x n (y + 1)
  unended_with b e f g =
      record {
        same = g ∙ u.same;
        long = u.long;
        inside = u.inside;
        told = u.told;
        most = omega arith;
        none =
            any_miss _ _ (with_at b e ∙ f) ∙ u.none;
      }

  pub shoved :
      y < places → end_marked ends x y ≡ true
      → serves_in home (shifted m x y) k (i + 1) x ≡ true → shoves_in home l k i a x ≡ true
  unfolding shoves_in
  shoved b e f = any_true _ places y b (with_at b e ∙ f)

  pub unended : places ≤ y → shoves_in home l k i a x ≡ false
  unfolding shoves_in
  unended b = let e : places ≡ y = omega (arith, u.most) in ap (any (with_in home l k i a x)) e ∙ u.none

-- the bytes of the two places that a chain changed are put back
pub put_back : {l m n : List ℕ} (x y : ℕ) → m ≡ shifted l x y → n ≡ m → set (set n y (byte l y)) x (byte l x) ≡ l
put_back {l} x y e f = ap (λ (q : List ℕ). set (set q y (byte l y)) x (byte l x)) (f ∙ e) ∙ shifted_back l x y

-- an array of zeros marks no place
pub blank : Blank (replicate room 0)
blank = record { long = length-replicate {A = ℕ} room 0; each = byte_empty room }

-- what `gather` leaves in an array of zeros
pub gathered :
    (l : List ℕ) {trail m n : List ℕ} {a x : ℕ} → trail ≡ a ∷ [] → Marks x (ends_in (next_in l) (stand_in l) trail 3 x) m n → Blank m
    → x < places → (z : ℕ) → z < places → end_marked n x z ≡ ends_in (next_in l) (stand_in l) (a ∷ []) 3 x z
gathered l {trail} {m} {n} {a} {x} t k e p z q = ended l (stand_in l) (a ∷ []) x z e (rw t at k) p q
