-- What a hex is to a group, taken apart and put together again.
-- Assumes nothing.
use Prim.Native.Nat.{ℕ, ◌<◌}
use mathlib.Core.Path.{◌≡◌, refl, sym, ap, ◌∙◌}
use mathlib.Core.Bool.{Bool, true, false, not, ◌||◌}
use lib.Dec.{eqb}
use borrow.Author.Tests.{eq-eqb, eqb-true, ne_eqb, not-false}
use Rattle.position.specs.Kind.{supply_kind}
use Rattle.position.specs.Board.{Board, force_of}
use Rattle.position.specs.Crowd.{owes_at}
use Rattle.position.specs.Tally.{any}
use Rattle.position.specs.Role as Role
use Rattle.position.proofs.Tallies.{any_false, any_never, any_same, any_some, any_true, both_yes, either, neither, not_both, same_or}
use Rattle.acceptance.proofs.Carries.{Fixed, kind_by, force_by}
use Rattle.field.specs.Scene.{scene}
use Rattle.field.specs.Zone.{stands_on, vacant}
use Rattle.field.proofs.Zones.{stands_here, stands_off}
use Rattle.routes.specs.Bears.{bears}
use Rattle.chains.specs.declared.Stand.TheVariants.{Shut, Free, Loose}
use Rattle.chains.specs.Stand.{apart, firm, bars, stand, is_free, is_loose}

-- a unit can be pushed: of the force, no supply unit, and it owes nothing
pub record Light (b : Board) (f u : ℕ) : Type 0 where
  pub own : force_of b u ≡ f
  pub kind : b.units.counter.kind u ≡ supply_kind → ⊥
  pub role : b.units.state.role u ≡ Role.owes → ⊥

pub light_is : (b : Board) (f u : ℕ) → firm b f u ≡ false → Light b f u
unfolding firm
light_is b f u e =
    let i = neither (not (eqb (force_of b u) f)) (eqb (b.units.counter.kind u) supply_kind || eqb (b.units.state.role u) Role.owes) e in
    let j = neither (eqb (b.units.counter.kind u) supply_kind) (eqb (b.units.state.role u) Role.owes) i.1 in
    record {
      own = eqb-true (force_of b u) f (not-false (eqb (force_of b u) f) i.0);
      kind = λ z. not_both (eqb (b.units.counter.kind u) supply_kind) (eq-eqb (b.units.counter.kind u) supply_kind z) j.0;
      role = λ z. not_both (eqb (b.units.state.role u) Role.owes) (eq-eqb (b.units.state.role u) Role.owes z) j.1;
    }

-- such a unit is not firm
pub is_light : (b : Board) (f u : ℕ) → Light b f u → firm b f u ≡ false
unfolding firm
is_light b f u l =
    simp (
      eq-eqb (force_of b u) f l.own,
      ne_eqb (b.units.counter.kind u) supply_kind l.kind,
      ne_eqb (b.units.state.role u) Role.owes l.role,
    )

pub firm_same : {b c : Board} (f u : ℕ) → Fixed b c → c.units.state.role u ≡ b.units.state.role u → firm c f u ≡ firm b f u
unfolding firm
firm_same f u x e = simp (force_by x u, ap (λ (q : ℕ → ℕ). q u) (kind_by x), e)

module _ (b : Board) (a h w : ℕ) where
  -- elsewhere than in the group's hex every unit is apart
  pub apart_here : (h ≡ a → ⊥) → b.units.state.hex w ≡ h → apart b a h w ≡ true
  unfolding apart owes_at
  apart_here n e =
      simp (stands_here (scene b) h w e, e, ne_eqb h a n) (either (eqb (b.units.state.role w) Role.owes) (λ z. simp z) (λ z. simp z))

  pub apart_off : (b.units.state.hex w ≡ h → ⊥) → apart b a h w ≡ false
  unfolding apart
  apart_off n = simp (stands_off (scene b) h w n)

  pub apart_owes : owes_at b a w ≡ true → apart b a h w ≡ false
  unfolding apart
  apart_owes e = simp e (either (stands_on (scene b) h w) (λ z. simp z) (λ z. simp z))

  pub apart_else : owes_at b a w ≡ false → apart b a h w ≡ stands_on (scene b) h w
  unfolding apart
  apart_else e = simp e (either (stands_on (scene b) h w) (λ z. simp z) (λ z. simp z))

  pub apart_stands : apart b a h w ≡ true → b.units.state.hex w ≡ h
  unfolding apart stands_on
  apart_stands e = eqb-true (b.units.state.hex w) h (both_yes (eqb (b.units.state.hex w) h) (not (owes_at b a w)) e).0

-- a unit that stands where it stood, with the role that it had
pub apart_same :
    (b c : Board) (a h w : ℕ) → c.units.state.hex w ≡ b.units.state.hex w → c.units.state.role w ≡ b.units.state.role w → apart c a h w ≡ apart b a h w
unfolding apart owes_at stands_on
apart_same b c a h w e r = simp (e, r)

-- a hex that holds a stack which can be pushed
pub record IsLoose (b : Board) (f a h : ℕ) : Type 0 where
  pub bear : bears b f h ≡ true
  pub unit : ℕ
  pub counted : unit < b.units.count
  pub there : apart b a h unit ≡ true
  pub light : (w : ℕ) → w < b.units.count → apart b a h w ≡ true → firm b f w ≡ false

pub record IsFree (b : Board) (f a h : ℕ) : Type 0 where
  pub bear : bears b f h ≡ true
  pub none : (w : ℕ) → w < b.units.count → apart b a h w ≡ false

module _ (b : Board) (f a h : ℕ) where
  abbrev some : Bool
  some = any (apart b a h) b.units.count

  abbrev bar : Bool
  bar = any (bars b f a h) b.units.count

  barred : (w : ℕ) → apart b a h w ≡ true → bars b f a h w ≡ firm b f w
  unfolding bars
  barred w e = simp e

  pub loose_is : stand b f a h ≡ Loose → IsLoose b f a h
  unfolding stand
  loose_is e =
      either (bears b f h)
      (λ x.
      either some
      (λ y.
      either bar
      (λ z. not_both (is_loose Shut) (ap is_loose (simp (x, y, z) at e)) refl)
      (λ z.
      let s = any_some (apart b a h) b.units.count y in
      record {
        bear = x;
        unit = s.at;
        counted = s.below;
        there = s.passes;
        light = λ w l i. sym (barred w i) ∙ any_false (bars b f a h) b.units.count w z l;
      }))
      (λ y. not_both (is_loose Free) (ap is_loose (simp (x, y) at e)) refl))
      (λ x. not_both (is_loose Shut) (ap is_loose (simp x at e)) refl)

  pub is_loose_lem : IsLoose b f a h → stand b f a h ≡ Loose
  unfolding stand bars
  is_loose_lem i =
      let y = any_true (apart b a h) b.units.count i.unit i.counted i.there in
      let z =
      any_never (bars b f a h) b.units.count
      (λ w l. either (apart b a h w) (λ e. simp e (i.light w l e)) (λ e. simp e))
      in
      simp (i.bear, y, z)

  pub free_is : stand b f a h ≡ Free → IsFree b f a h
  unfolding stand
  free_is e =
      either (bears b f h)
      (λ x.
      either some
      (λ y.
      either bar
      (λ z. not_both (is_free Shut) (ap is_free (simp (x, y, z) at e)) refl)
      (λ z. not_both (is_free Loose) (ap is_free (simp (x, y, z) at e)) refl))
      (λ y. record { bear = x; none = λ w l. any_false (apart b a h) b.units.count w y l }))
      (λ x. not_both (is_free Shut) (ap is_free (simp x at e)) refl)

  pub is_free_lem : IsFree b f a h → stand b f a h ≡ Free
  unfolding stand
  is_free_lem i = simp (i.bear, any_never (apart b a h) b.units.count i.none)

  -- a free hex that is not the group's own is vacant
  pub free_vacant : (h ≡ a → ⊥) → IsFree b f a h → vacant (scene b) h ≡ true
  unfolding vacant
  free_vacant n i =
      simp
      (any_never (stands_on (scene b) h) b.units.count
      (λ w l.
      same_or (b.units.state.hex w) h
      (λ z. not_both (apart b a h w) (apart_here b a h w n z) (i.none w l))
      (stands_off (scene b) h w)))

  -- and a loose one is not
  pub loose_held : IsLoose b f a h → vacant (scene b) h ≡ false
  unfolding vacant
  loose_held i =
      simp
      (any_true (stands_on (scene b) h) b.units.count i.unit i.counted
      (stands_here (scene b) h i.unit (apart_stands b a h i.unit i.there)))

-- a hex that does not bear is shut
pub stand_shut : (b : Board) (f a h : ℕ) → bears b f h ≡ false → stand b f a h ≡ Shut
unfolding stand
stand_shut b f a h e = simp e

pub not_shut : (b : Board) (f a h : ℕ) → (stand b f a h ≡ Shut → ⊥) → bears b f h ≡ true
not_shut b f a h n = either (bears b f h) (λ e. e) (λ e. absurd (n (stand_shut b f a h e)))

-- two boards on which a hex is the same to two groups
pub stand_same :
    {b c : Board} (f a e h : ℕ) → Fixed b c → bears c f h ≡ bears b f h
    → ((w : ℕ) → w < b.units.count → apart c e h w ≡ apart b a h w)
    → ((w : ℕ) → w < b.units.count → apart b a h w ≡ true → c.units.state.role w ≡ b.units.state.role w)
    → stand c f e h ≡ stand b f a h
unfolding stand bars
stand_same {b} {c} f a e h x q s r =
    let n = b.units.count in
    let i =
    ap (any (apart c e h)) x.count ∙ any_same (apart c e h) (apart b a h) n s
    in
    let j =
    ap (any (bars c f e h)) x.count
    ∙ any_same (bars c f e h) (bars b f a h) n
    (λ w l.
    either (apart b a h w)
    (λ y. simp (s w l, y, firm_same f w x (r w l y)))
    (λ y. simp (s w l, y)))
    in
    simp (q, i, j)
