-- Laws of trails: which places one names, and into which a stack may go.
-- Assumes nothing.
use Prim.Native.Nat.{ℕ, ◌+◌, ◌-◌, ◌*◌, ◌/◌, ◌%◌, ◌≤◌, ◌<◌}
use mathlib.Core.Path.{◌≡◌, refl, sym, ap, ap₂, ◌∙◌}
use mathlib.Core.Bool.{Bool, true, false, not, and-false}
use mathlib.Core.List.{List, [], ◌∷◌}
use native.Mathlib.Omega.{arith}
use lib.Dec.{eqb}
use borrow.Author.Tests.{eq-eqb, ne_eqb}
use Rattle.position.proofs.Tallies.{same_or, not_both, both_yes, but, but_other, tally_but_hit, tally_le}
use Rattle.field.specs.Listed.{named}
use Rattle.field.proofs.Named.{named_here, named_past}
use Rattle.field.proofs.Lists.{named_nil}
use Rattle.chains.specs.declared.Stand.{Stand}
use Rattle.chains.specs.declared.Stand.TheVariants.{Shut, Free, Loose}
use Rattle.chains.specs.Stand.{is_free, is_loose}
use Rattle.chains.specs.Chain.{Stands, rests, yields}
use Rattle.plot.specs.Plot.{places}
use Rattle.plot.specs.Trail.{before, trail_of, unused, TrailOk}

-- where two stacks may still be pushed, one may
pub one_left : {left : ℕ} → 2 ≤ left → 1 ≤ left
one_left l = omega (arith, l)

-- a place before others is named with them
module _ (i : ℕ) (used : List ℕ) where
  before_none : i ≡ places → before i used ≡ used
  unfolding before
  before_none e = simp (eq-eqb i places e)

  before_some : (i ≡ places → ⊥) → before i used ≡ i ∷ used
  unfolding before
  before_some n = simp (ne_eqb i places n)

  before_here : (z : ℕ) → z < places → i ≡ z → named (before i used) z ≡ true
  before_here z l e = ap (λ (us : List ℕ). named us z) (before_some (λ p. omega arith)) ∙ named_here i used z e

  before_past : (z : ℕ) → (i ≡ z → ⊥) → named (before i used) z ≡ named used z
  before_past z n =
      same_or i places
      (λ e. ap (λ (us : List ℕ). named us z) (before_none e))
      (λ f. ap (λ (us : List ℕ). named us z) (before_some f) ∙ named_past i used z n)

-- each of a trail's places is named by it
module _ (t z : ℕ) (l : z < places) where
  pub on_first : t % 256 ≡ z → named (trail_of t) z ≡ true
  unfolding trail_of
  on_first e = before_here (t % 256) _ z l e

  pub on_second : (t % 256 ≡ z → ⊥) → t / 256 % 256 ≡ z → named (trail_of t) z ≡ true
  unfolding trail_of
  on_second f e = before_past (t % 256) _ z f ∙ before_here (t / 256 % 256) _ z l e

  pub on_third : (t % 256 ≡ z → ⊥) → (t / 256 % 256 ≡ z → ⊥) → named (trail_of t) z ≡ eqb (t / 65536) z
  unfolding trail_of
  on_third f g =
      before_past (t % 256) _ z f ∙ before_past (t / 256 % 256) _ z g
      ∙ same_or (t / 65536) z
      (λ e. before_here (t / 65536) [] z l e ∙ sym (eq-eqb (t / 65536) z e))
      (λ n. before_past (t / 65536) [] z n ∙ named_nil z ∙ sym (ne_eqb (t / 65536) z n))

-- a trail by its three places
parts :
    (t a b c : ℕ) → t % 256 ≡ a → t / 256 % 256 ≡ b → t / 65536 ≡ c → trail_of t ≡ before a (before b (before c []))
unfolding trail_of
parts t a b c p q r = ap₂ before p (ap₂ before q (ap (λ (i : ℕ). before i []) r))

-- the group's own place alone
module _ (a t : ℕ) (l : a < places) (e : t ≡ a + 256 * places + 65536 * places) where
  own_second : t / 256 % 256 ≡ places
  own_second = omega arith

  own_third : t / 65536 ≡ places
  own_third = omega arith

  pub own_trail : trail_of t ≡ a ∷ []
  own_trail =
      parts t a places places (omega arith) own_second own_third
      ∙ before_some a _ (λ p. omega arith)
      ∙ ap (◌∷◌ a) (before_none places _ refl ∙ before_none places [] refl)

  pub own_ok : TrailOk t 3
  own_ok = record { few = omega arith; two = λ _. own_third; three = λ _. own_second }

-- a place more
module _ (t h left u : ℕ) (o : TrailOk t left) (l : 2 ≤ left) (p : h < places) (e : u ≡ h + 256 * (t % 65536)) where
  longer_second : u / 256 % 256 ≡ t % 256
  longer_second = omega arith

  longer_third : u / 65536 ≡ t / 256 % 256
  longer_third = omega arith

  pub longer_is : trail_of u ≡ h ∷ trail_of t
  unfolding trail_of
  longer_is =
      parts u h (t % 256) (t / 256 % 256) (omega arith) longer_second longer_third
      ∙ before_some h _ (λ q. omega arith)
      ∙ ap (λ (us : List ℕ). h ∷ before (t % 256) (before (t / 256 % 256) us)) (sym (before_none (t / 65536) [] (o.two l)))

  pub longer_ok : TrailOk u (left - 1)
  longer_ok = record {
    few = omega (arith, o.few);
    two = λ q. longer_third ∙ o.three (omega arith);
    three = λ q. absurd (omega (arith, o.few));
  }

-- a stand of another kind
pub not_free : (s : Stand) → (s ≡ Free → ⊥) → is_free s ≡ false
not_free Shut k = refl
not_free Free k = absurd (k refl)
not_free Loose k = refl

pub not_loose : (s : Stand) → (s ≡ Loose → ⊥) → is_loose s ≡ false
not_loose Shut k = refl
not_loose Free k = refl
not_loose Loose k = absurd (k refl)

-- whether a stack may go into a place, or push the stack there, test by test
module _ (s : Stands) (h : ℕ) (used : List ℕ) (z : ℕ) where
  pub rests_other : is_free (s z) ≡ false → rests s (h ∷ used) z ≡ false
  unfolding rests
  rests_other e = simp e

  pub rests_own : h ≡ z → rests s (h ∷ used) z ≡ false
  unfolding rests
  rests_own e = simp (named_here h used z e, and-false)

  pub rests_past : s z ≡ Free → (h ≡ z → ⊥) → rests s (h ∷ used) z ≡ not (named used z)
  unfolding rests
  rests_past e n = simp (e, named_past h used z n)

  pub yields_other : is_loose (s z) ≡ false → yields s (h ∷ used) z ≡ false
  unfolding yields
  yields_other e = simp e

  pub yields_own : h ≡ z → yields s (h ∷ used) z ≡ false
  unfolding yields
  yields_own e = simp (named_here h used z e, and-false)

  pub yields_past : s z ≡ Loose → (h ≡ z → ⊥) → yields s (h ∷ used) z ≡ not (named used z)
  unfolding yields
  yields_past e n = simp (e, named_past h used z n)

-- a place that was not used is used: one fewer is not
unused_falls : (used : List ℕ) (z : ℕ) → z < places → not (named used z) ≡ true → unused (z ∷ used) < unused used
unfolding unused
unused_falls used z l n =
    let t : ℕ → Bool = λ k. not (named used k) in
    let fewer =
    tally_le (λ k. not (named (z ∷ used) k)) (but t z) places
    (λ k _ e.
    same_or z k
    (λ q. not_both (not (named (z ∷ used) k)) e (ap not (named_here z used k q)))
    (λ d. but_other t z k (λ q. d (sym q)) ∙ ap not (sym (named_past z used k d)) ∙ e))
    in
    omega (arith, tally_but_hit t z places l n)

-- so a push takes the chain to a place more
pub push_uses :
    (s : Stands) {used more : List ℕ} (z : ℕ) → more ≡ used → z < places → yields s used z ≡ true → unused (z ∷ more) < unused used
unfolding yields
push_uses s {used} {more} z e l y =
    let u = ap (λ (us : List ℕ). unused (z ∷ us)) e in
    omega (arith, unused_falls used z l (both_yes (is_loose (s z)) (not (named used z)) y).1)
