-- Laws of what a hex is to a retreating group, test by test.
-- Assumes nothing.
use Prim.Native.Nat.{ℕ}
use mathlib.Core.Path.{◌≡◌, refl, sym, ap, ◌∙◌}
use mathlib.Core.Bool.{Bool, true, false, not, ◌&&◌}
use lib.Dec.{eqb}
use borrow.Author.Tests.{eq-eqb, ne_eqb, eqb-true, not-true, not-false}
use Rattle.position.specs.Tally.{any}
use Rattle.position.specs.Bits.{has}
use Rattle.position.specs.Board.{Board, force_of}
use Rattle.position.specs.Crowd.{owes_at}
use Rattle.position.specs.Ground.{standable}
use Rattle.position.specs.Role as Role
use Rattle.position.proofs.Tallies.{same_or, any_some, any_true, any_false, any_never, any_same}
use Rattle.field.specs.Scene.{scene}
use Rattle.field.specs.Zone.{stands_on, vacant}
use Rattle.routes.specs.Bears.{bears}
use Rattle.chains.specs.declared.Stand.TheVariants.{Shut, Free, Loose}
use Rattle.chains.specs.Stand.{apart, firm, bars, stand}
use Rattle.pushes.specs.Drawn.{firm_on, ShownAt}

-- a unit elsewhere; one on the hex that does not owe; and one that does, which is of the group if the hex is the group's
module _ (b : Board) (a h u : ℕ) where
  pub apart_elsewhere : (b.units.state.hex u ≡ h → ⊥) → apart b a h u ≡ false
  unfolding apart stands_on
  apart_elsewhere e = simp (ne_eqb (b.units.state.hex u) h e)

  module _ (e : b.units.state.hex u ≡ h) where
    pub apart_stays : (b.units.state.role u ≡ Role.owes → ⊥) → apart b a h u ≡ true
    unfolding apart stands_on owes_at
    apart_stays r = simp (eq-eqb (b.units.state.hex u) h e, ne_eqb (b.units.state.role u) Role.owes r)

    pub apart_owes : b.units.state.role u ≡ Role.owes → apart b a h u ≡ not (eqb h a)
    unfolding apart stands_on owes_at
    apart_owes r = simp (e, eq-eqb h h refl, eq-eqb (b.units.state.role u) Role.owes r)

-- a unit of another force, a supply unit, and any other
module _ (b : Board) (f u : ℕ) where
  pub firm_other : (force_of b u ≡ f → ⊥) → firm b f u ≡ true
  unfolding firm
  firm_other e = simp (ne_eqb (force_of b u) f e)

  module _ (e : force_of b u ≡ f) where
    pub firm_supply : b.units.counter.kind u ≡ 5 → firm b f u ≡ true
    unfolding firm
    firm_supply k = simp (eq-eqb (force_of b u) f e, eq-eqb (b.units.counter.kind u) 5 k)

    pub firm_owes : (b.units.counter.kind u ≡ 5 → ⊥) → firm b f u ≡ eqb (b.units.state.role u) Role.owes
    unfolding firm
    firm_owes k = simp (eq-eqb (force_of b u) f e, ne_eqb (b.units.counter.kind u) 5 k)

module _ (b : Board) (f a h u : ℕ) where
  pub bars_not : apart b a h u ≡ false → bars b f a h u ≡ false
  unfolding bars
  bars_not e = simp e

  pub bars_there : apart b a h u ≡ true → bars b f a h u ≡ firm b f u
  unfolding bars
  bars_there e = simp e

-- nobody stands apart on a vacant hex
none_apart : (b : Board) (a h : ℕ) → vacant (scene b) h ≡ true → any (apart b a h) b.units.count ≡ false
unfolding apart vacant
none_apart b a h e =
    let n = b.units.count in
    let t = stands_on (scene b) h in
    any_never (λ u. t u && not (owes_at b a u)) n
    (λ u l. ap (λ (x : Bool). x && not (owes_at b a u)) (any_false t n u (not-true (any t n) e) l))

-- on a hex that is not the group's everybody stands apart
module _ (b : Board) (a h : ℕ) (n : h ≡ a → ⊥) where
  apart_here : (u : ℕ) → b.units.state.hex u ≡ h → apart b a h u ≡ true
  apart_here u i =
      same_or (b.units.state.role u) Role.owes (λ r. apart_owes b a h u i r ∙ ap not (ne_eqb h a n)) (λ r. apart_stays b a h u i r)

  -- so if it is held, somebody does,
  pub held_apart : vacant (scene b) h ≡ false → any (apart b a h) b.units.count ≡ true
  unfolding vacant stands_on
  held_apart e =
      let c = b.units.count in
      let s = any_some (stands_on (scene b) h) c (not-false (any (stands_on (scene b) h) c) e) in
      any_true (apart b a h) c s.at s.below (apart_here s.at (eqb-true (b.units.state.hex s.at) h s.passes))

  -- and who can't be pushed there bars it
  pub bars_other : (f c : ℕ) → any (bars b f a h) c ≡ any (firm_on b f h) c
  unfolding firm_on stands_on
  bars_other f c =
      any_same (bars b f a h) (firm_on b f h) c
      (λ u l. same_or (b.units.state.hex u) h
      (λ i. bars_there b f a h u (apart_here u i) ∙ sym (simp (eq-eqb (b.units.state.hex u) h i)))
      (λ i. bars_not b f a h u (apart_elsewhere b a h u i) ∙ sym (simp (ne_eqb (b.units.state.hex u) h i))))

-- where no unit may stand, and in an Enemy zone
module _ (b : Board) (f a h : ℕ) where
  pub stand_barred : standable b h ≡ false → stand b f a h ≡ Shut
  unfolding stand bears
  stand_barred e = simp e

  module _ {m : ℕ} (k : ShownAt b f h m) (e : standable b h ≡ true) where
    pub stand_zone : has 1 m ≡ true → stand b f a h ≡ Shut
    unfolding stand bears
    stand_zone z = simp (e, sym k.zone ∙ z)

    pub borne : has 1 m ≡ false → bears b f h ≡ true
    unfolding bears
    borne z = simp (e, sym k.zone ∙ z)

  -- elsewhere it is asked who stands there
  module _ (e : bears b f h ≡ true) where
    pub stand_alone : any (apart b a h) b.units.count ≡ false → stand b f a h ≡ Free
    unfolding stand
    stand_alone n = simp (e, n)

    pub stand_vacant : {m : ℕ} → ShownAt b f h m → has 16 m ≡ false → stand b f a h ≡ Free
    stand_vacant k v = stand_alone (none_apart b a h (not-false (vacant (scene b) h) (sym k.held ∙ v)))

    module _ (s : any (apart b a h) b.units.count ≡ true) where
      pub stand_firm : any (bars b f a h) b.units.count ≡ true → stand b f a h ≡ Shut
      unfolding stand
      stand_firm n = simp (e, s, n)

      pub stand_loose : any (bars b f a h) b.units.count ≡ false → stand b f a h ≡ Loose
      unfolding stand
      stand_loose n = simp (e, s, n)

    -- the same of a hex that is not the group's, by its marks
    module _ (d : h ≡ a → ⊥) {m : ℕ} (k : ShownAt b f h m) (v : has 16 m ≡ true) where
      somebody : any (apart b a h) b.units.count ≡ true
      somebody = held_apart b a h d (not-true (vacant (scene b) h) (sym k.held ∙ v))

      pub other_firm : has 32 m ≡ true → stand b f a h ≡ Shut
      other_firm z = stand_firm somebody (bars_other b a h d f b.units.count ∙ sym k.barred ∙ z)

      pub other_loose : has 32 m ≡ false → stand b f a h ≡ Loose
      other_loose z = stand_loose somebody (bars_other b a h d f b.units.count ∙ sym k.barred ∙ z)
