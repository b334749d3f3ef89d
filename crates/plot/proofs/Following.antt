-- Laws of the test of an order on a plot.
-- Assumes nothing.
use Rattle.std.specs.Prelude.{Option, Some, None}
use Prim.Native.Nat.{ℕ, suc, ◌+◌, ◌<◌, ◌≤◌}
use mathlib.Core.Path.{◌≡◌, refl, sym, ap, ap₂, ◌∙◌}
use mathlib.Core.Bool.{true, false, and-false}
use mathlib.Core.List.{List, [], ◌∷◌}
use native.Mathlib.Omega.{arith}
use native.Mathlib.Numerals.{add-one}
use borrow.Author.Tests.{eq-eqb, ne_eqb}
use lib.Dec.{eqb}
use lib.ListN.{length, get_or}
use Rattle.grid.specs.Walk.{distance_of}
use Rattle.chains.specs.declared.Stand.TheVariants.{Shut, Free, Loose}
use Rattle.chains.specs.Chain.{Stands, leads, most, after}
use Rattle.chains.specs.Series.{Land}
use Rattle.chains.specs.Follows.{takes, by_stand, by_taken, follows}
use Rattle.plot.specs.Plot.{places, wide, stand_in, next_in, land_in, shifted}
use Rattle.plot.specs.Follow.{places_from, follows_in, goes_on, Stepped, PushedOut}
use Rattle.plot.proofs.Taking.{led_below, never_took, none_left, places_next, places_none, same_took}
use Rattle.plot.proofs.Plots.{shifted_land, shifted_long, shifted_stands}

-- a step of the group, by what it finds
module _ (g : Land) (s : Stands) (i a x : ℕ) (rest ps : List ℕ) where
  follows_apart : leads g.next a x ≡ false → follows g s i a (x ∷ rest) ps ≡ false
  unfolding follows
  follows_apart e = simp e

  follows_far : (g.far x ≡ suc i → ⊥) → follows g s i a (x ∷ rest) ps ≡ false
  unfolding follows
  follows_far n = simp (ne_eqb (g.far x) (suc i) n, and-false)

  follows_by :
      leads g.next a x ≡ true → g.far x ≡ suc i
      → follows g s i a (x ∷ rest) ps
      ≡ by_stand (follows g s (suc i) x rest ps)
      (by_taken (λ y qs. follows g (after s x y) (suc i) x rest qs) (takes g.next s (a ∷ []) most x ps))
      (s x)
  unfolding follows
  follows_by e f = simp (e, eq-eqb (g.far x) (suc i) f)

-- a chain that is done leaves the land, and changes the stands
on_shifted :
    (home : ℕ) (l : List ℕ) (x y : ℕ) → length l ≡ places → x < places → y < places → (i a : ℕ) (rest ps : List ℕ)
    → follows (land_in home l) (after (stand_in l) x y) i a rest ps
    ≡ follows (land_in home (shifted l x y)) (stand_in (shifted l x y)) i a rest ps
on_shifted home l x y b p q i a rest ps =
    ap₂ (λ (g : Land) (s : Stands). follows g s i a rest ps)
    (sym (shifted_land l x y b p q home)) (sym (shifted_stands l x y b p q))

module _ {place : ℕ → ℕ} {home : ℕ} {l : List ℕ} {i a x k : ℕ} {pushes : List ℕ} where
  pub stepped_apart : leads (next_in l) a x ≡ false → Stepped place home l l i a x k pushes None
  unfolding land_in
  stepped_apart e =
      record { long = refl; used = λ y j f. never_took y j f; left_to_ask = λ rest. follows_apart _ _ _ _ _ _ _ e }

  pub stepped_far : (distance_of wide home x ≡ i + 1 → ⊥) → Stepped place home l l i a x k pushes None
  unfolding land_in
  stepped_far n =
      record {
        long = refl;
        used = λ y j f. never_took y j f;
        left_to_ask = λ rest. follows_far _ _ _ _ _ _ _ (λ e. n (e ∙ sym (add-one i)));
      }

  module _ (e : leads (next_in l) a x ≡ true) (f : distance_of wide home x ≡ i + 1) where
    pub stepped_shut : stand_in l x ≡ Shut → Stepped place home l l i a x k pushes None
    unfolding land_in
    stepped_shut s =
        record {
          long = refl;
          used = λ y j g. never_took y j g;
          left_to_ask = λ rest. follows_by _ _ _ _ _ _ _ e (f ∙ add-one i) ∙ rw s;
        }

    pub stepped_free : stand_in l x ≡ Free → k ≤ length pushes → Stepped place home l l i a x k pushes (Some (x, k))
    unfolding land_in
    stepped_free s b =
        record {
          long = refl;
          used = λ y j g. let q = same_took x k y j g in (led_below l a x e, omega (arith, q.1));
          left_to_ask = λ rest. follows_by _ _ _ _ _ _ _ e (f ∙ add-one i) ∙ rw s;
        }

    pub stepped_loose :
        {m : List ℕ} (r : Option (ℕ × ℕ)) → stand_in l x ≡ Loose → length l ≡ places → PushedOut place l m a x k pushes r
        → Stepped place home l m i a x k pushes r
    unfolding land_in
    stepped_loose {m} None s b p =
        record {
          long = ap length (p.kept refl);
          used = λ y j g. never_took y j g;
          left_to_ask = λ rest. follows_by _ _ _ _ _ _ _ e (f ∙ add-one i) ∙ rw s (rw (sym p.took));
        }
    stepped_loose {m} (Some (y, j)) s b p =
        let q = p.left y j refl in
        let n = led_below l a x e in
        record {
          long = ap length q.0 ∙ shifted_long l x y;
          used = λ y' j' g. let t = same_took y j y' j' g in (n, omega (arith, q.2, t.1));
          left_to_ask = λ rest.
              follows_by (land_in home l) (stand_in l) i a x rest (places_from place k pushes) e (f ∙ add-one i)
              ∙ rw s (rw (sym p.took) (rw q.0 (on_shifted home l x y b n q.1 (suc i) x rest
              (places_from place j pushes))));
        }

-- the group has come to place a by i steps of the route and the pushes before number k: the plot was l and is m, and the answer is what
-- comes of the rest
pub record Followed (place : ℕ → ℕ) (home : ℕ) (l route pushes m : List ℕ) (a k i : ℕ) : Type 0 where
  pub long : length m ≡ places
  pub inside : a < places
  pub few : k ≤ length pushes
  pub most : i ≤ length route
  pub left_to_ask : follows_in place home l 0 home route 0 pushes ≡ follows_in place home m i a route k pushes

pub followed_none :
    {place : ℕ → ℕ} {home : ℕ} {l route pushes : List ℕ} {a : ℕ} → length l ≡ places → a ≡ home → a < places
    → Followed place home l route pushes l a 0 0
followed_none {place} {home} {l} {route} {pushes} {a} b e p =
    record {
      long = b;
      inside = p;
      few = omega arith;
      most = omega arith;
      left_to_ask = ap (λ (x : ℕ). follows_in place home l 0 x route 0 pushes) (sym e);
    }

module _ {place : ℕ → ℕ} {home : ℕ} {l route pushes m : List ℕ} {a k i : ℕ} (u : Followed place home l route pushes m a k i) where
  -- a step more, or a wrong one
  module _ {n : List ℕ} {x : ℕ} {r : Option (ℕ × ℕ)} (b : i < length route) (e : x ≡ place (get_or route i 0))
      (t : Stepped place home m n i a x k pushes r) where
    stepped_on :
        follows_in place home l 0 home route 0 pushes
        ≡ goes_on place home n (suc i) x (places_from place (i + 1) route) pushes r
    unfolding follows_in
    stepped_on =
        u.left_to_ask
        ∙ ap (λ (rest : List ℕ). follows (land_in home m) (stand_in m) i a rest (places_from place k pushes))
        (places_next place i route x b e)
        ∙ t.left_to_ask (places_from place (i + 1) route)

    pub followed_more : {y j : ℕ} → r ≡ Some (y, j) → Followed place home l route pushes n x j (i + 1)
    unfolding follows_in
    followed_more {y} {j} f =
        let q = t.used y j f in
        record {
          long = t.long ∙ u.long;
          inside = q.0;
          few = q.1;
          most = omega arith;
          left_to_ask = stepped_on ∙ ap (goes_on place home n (suc i) x (places_from place (i + 1) route) pushes) f ∙ rw (add-one i);
        }

    pub followed_wrong : r ≡ None → follows_in place home l 0 home route 0 pushes ≡ false
    followed_wrong f = stepped_on ∙ ap (goes_on place home n (suc i) x (places_from place (i + 1) route) pushes) f

  -- the route is at its end
  pub followed_all : length route ≤ i → follows_in place home l 0 home route 0 pushes ≡ eqb k (length pushes)
  unfolding follows_in follows
  followed_all b =
      u.left_to_ask
      ∙ ap (λ (rest : List ℕ). follows (land_in home m) (stand_in m) i a rest (places_from place k pushes))
      (places_none place i route b)
      ∙ none_left place k pushes u.few
