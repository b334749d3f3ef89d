-- Who stands where and zones of control: the loops that ask every number below n, each test by its cases, and what a zone comes from.
-- Assumes nothing.
use Rattle.std.specs.Prelude.{Option}
use Rattle.std.specs.declared.option.Option.TheVariants as O
use Prim.Native.Nat.{ℕ, ◌+◌, ◌≤◌, ◌<◌}
use mathlib.Core.Path.{◌≡◌, refl, sym, ap, ◌∙◌}
use mathlib.Core.Bool.{Bool, true, false, not, ◌&&◌, and-false}
use native.Mathlib.Omega.{arith}
use lib.Dec.{ltb, eqb}
use borrow.Author.Tests.{ltb-true, lt-ltb, eq-eqb, ne_eqb, eqb-true, eqb-false, not-true, not-false}
use Rattle.position.specs.Tally.{any}
use Rattle.position.specs.Board.{Board, force_of, enemy, neutral, relates}
use Rattle.position.specs.declared.Relation.{Relation}
use Rattle.position.specs.declared.Relation.TheVariants.{Enemy, Neutral}
use Rattle.position.specs.Ground.{beside, side}
use Rattle.position.proofs.Tallies.{both_yes, not_both, either, any_zero, any_miss, any_some, any_true, any_false, any_never}
use Rattle.field.specs.Scene.{Scene, scene, force_in}
use Rattle.field.specs.Zone.{
  stands_on,
  own_on,
  enemy_on,
  holds_enemy,
  neutral_on,
  holds_neutral,
  related_on,
  holds_related,
  holds_caster,
  caster_at,
  casts_over,
  casts,
  enemy_casts,
  enemy_zone,
}

-- no number below i, which is at most n, passes the test
pub record None (t : ℕ → Bool) (i n : ℕ) : Type 0 where
  pub most : i ≤ n
  pub none : any t i ≡ false

pub none_yet : {t : ℕ → Bool} {n : ℕ} → None t 0 n
none_yet {t} = record { most = omega arith; none = any_zero t }

module _ {t : ℕ → Bool} {i n : ℕ} (s : None t i n) where
  pub one_more : i < n → t i ≡ false → None t (i + 1) n
  one_more l e = record { most = omega arith; none = any_miss t i e ∙ s.none }

  pub none_at_all : n ≤ i → any t n ≡ false
  none_at_all l = ap (any t) (omega arith) ∙ s.none

-- a unit's force, of the board and of its scene
pub force_in_lem : (b : Board) (u : ℕ) → force_of b u ≡ force_in (scene b) u
unfolding force_of force_in
force_in_lem b u = refl

module _ (s : Scene) (h u : ℕ) where
  pub stands_here : s.hex u ≡ h → stands_on s h u ≡ true
  unfolding stands_on
  stands_here e = eq-eqb (s.hex u) h e

  pub stands_off : (s.hex u ≡ h → ⊥) → stands_on s h u ≡ false
  unfolding stands_on
  stands_off e = ne_eqb (s.hex u) h e

module _ (s : Scene) (f h u : ℕ) where
  -- a unit that stands there, and one that does not
  pub own_off : (s.hex u ≡ h → ⊥) → own_on s f h u ≡ false
  unfolding own_on
  own_off e = simp (stands_off s h u e)

  pub enemy_here : s.hex u ≡ h → enemy_on s f h u ≡ s.enemy f (force_in s u)
  unfolding enemy_on
  enemy_here e = simp (stands_here s h u e)

  pub enemy_off : (s.hex u ≡ h → ⊥) → enemy_on s f h u ≡ false
  unfolding enemy_on
  enemy_off e = simp (stands_off s h u e)

  neutral_here : s.hex u ≡ h → neutral_on s f h u ≡ s.neutral f (force_in s u)
  unfolding neutral_on
  neutral_here e = simp (stands_here s h u e)

  -- for either relation
  pub related_off : (w : Relation) → (s.hex u ≡ h → ⊥) → related_on s w f h u ≡ false
  unfolding neutral_on
  related_off Enemy e = enemy_off e
  related_off Neutral e = simp (stands_off s h u e)

pub related_here : (b : Board) (w : Relation) (f h u : ℕ) → b.units.state.hex u ≡ h → related_on (scene b) w f h u ≡ relates b w f (force_of b u)
related_here b Enemy f h u e = enemy_here (scene b) f h u e ∙ ap (enemy b f) (sym (force_in_lem b u))
related_here b Neutral f h u e = neutral_here (scene b) f h u e ∙ ap (neutral b f) (sym (force_in_lem b u))

pub holds_any : (s : Scene) (w : Relation) (f h : ℕ) → holds_related s w f h ≡ any (related_on s w f h) s.count
unfolding holds_enemy holds_neutral
holds_any s Enemy f h = refl
holds_any s Neutral f h = refl

module _ (s : Scene) (f h : ℕ) where
  -- outside all-sea a zone comes from any direction,
  pub casts_around : (s.map.surface h ≡ 2 → ⊥) → casts s f h ≡ any (casts_over s f h) 6
  unfolding casts
  casts_around e = simp (ne_eqb (s.map.surface h) 2 e)

  -- over a side that lets it through from the neighbour
  pub over_from : (d n : ℕ) → side s.map h d < 2 → beside s.map h d ≡ O.Some n → casts_over s f h d ≡ holds_caster s f n
  unfolding casts_over caster_at
  over_from d n l e = simp (lt-ltb (side s.map h d) 2 l, e)

  pub enemy_casts_lem : (g : ℕ) → s.enemy f g ≡ true → enemy_casts s f h g ≡ casts s g h
  unfolding enemy_casts
  enemy_casts_lem g e = simp e

-- force g casts a zone over hex h, which is not all-sea, from a hex beside it
pub record CastFrom (s : Scene) (g h : ℕ) : Type 0 where
  pub direction : ℕ
  pub hex : ℕ
  pub turned : direction < 6
  pub not_sea : s.map.surface h ≡ 2 → ⊥
  pub thin : side s.map h direction < 2
  pub next : beside s.map h direction ≡ O.Some hex
  pub held : holds_caster s g hex ≡ true

-- an Enemy of force f does
pub record ZoneFrom (s : Scene) (f h : ℕ) : Type 0 where
  pub force : ℕ
  pub among : force < 4
  pub against : s.enemy f force ≡ true
  pub from : CastFrom s force h

-- a hex beside another, with a caster
record Held (s : Scene) (f : ℕ) (b : Option ℕ) : Type 0 where
  hex : ℕ
  at : b ≡ O.Some hex
  caster : holds_caster s f hex ≡ true

held-at : (s : Scene) (f : ℕ) (b : Option ℕ) → caster_at s f b ≡ true → Held s f b
unfolding caster_at
held-at s f (O.Some n) e = record { hex = n; at = refl; caster = e }
held-at s f O.None e = not_both false e refl

module _ (s : Scene) (f h : ℕ) where
  casts_parts : casts s f h ≡ true → (not (eqb (s.map.surface h) 2) ≡ true) × (any (casts_over s f h) 6 ≡ true)
  unfolding casts
  casts_parts e = both_yes (not (eqb (s.map.surface h) 2)) (any (casts_over s f h) 6) e

  over_parts : (d : ℕ) → casts_over s f h d ≡ true →
      (ltb (side s.map h d) 2 ≡ true) × (caster_at s f (beside s.map h d) ≡ true)
  unfolding casts_over
  over_parts d e = both_yes (ltb (side s.map h d) 2) (caster_at s f (beside s.map h d)) e

  enemy_parts : (g : ℕ) → enemy_casts s f h g ≡ true → (s.enemy f g ≡ true) × (casts s g h ≡ true)
  unfolding enemy_casts
  enemy_parts g e = both_yes (s.enemy f g) (casts s g h) e

  pub casts_from : casts s f h ≡ true → CastFrom s f h
  casts_from e =
      let a = casts_parts e in
      let w = any_some (casts_over s f h) 6 a.1 in
      let o = over_parts w.at w.passes in
      let n = held-at s f (beside s.map h w.at) o.1 in
      record {
        direction = w.at;
        hex = n.hex;
        turned = w.below;
        not_sea = eqb-false (s.map.surface h) 2 (not-true (eqb (s.map.surface h) 2) a.0);
        thin = ltb-true (side s.map h w.at) 2 o.0;
        next = n.at;
        held = n.caster;
      }

  pub from_casts : CastFrom s f h → casts s f h ≡ true
  from_casts c =
      let o = over_from s f h c.direction c.hex c.thin c.next ∙ c.held in
      casts_around s f h c.not_sea ∙ any_true (casts_over s f h) 6 c.direction c.turned o

module _ (s : Scene) (f h : ℕ) where
  pub zone_from : enemy_zone s f h ≡ true → ZoneFrom s f h
  unfolding enemy_zone
  zone_from e =
      let w = any_some (enemy_casts s f h) 4 e in
      let a = enemy_parts s f h w.at w.passes in
      record { force = w.at; among = w.below; against = a.0; from = casts_from s w.at h a.1 }

  pub from_zone : ZoneFrom s f h → enemy_zone s f h ≡ true
  unfolding enemy_zone
  from_zone z =
      let e = enemy_casts_lem s f h z.force z.against ∙ from_casts s z.force h z.from in
      any_true (enemy_casts s f h) 4 z.force z.among e

-- where no force is neutral no hex holds one
pub holds_no_neutral : (s : Scene) (f h : ℕ) → ((g : ℕ) → s.neutral f g ≡ false) → holds_neutral s f h ≡ false
unfolding holds_neutral neutral_on
holds_no_neutral s f h e = any_never (neutral_on s f h) s.count (λ u l. simp (e (force_in s u), and-false))

-- no force is Enemy to itself
pub enemy_other : (b : Board) (f g : ℕ) → enemy b f g ≡ true → g ≡ f → ⊥
unfolding enemy
enemy_other b f g e z =
    let t = eqb (b.desk.player f) (b.desk.player g) in
    not_both t (eq-eqb (b.desk.player f) (b.desk.player g) (ap b.desk.player (sym z))) (not-true t e)

-- another force is Enemy or neutral
same_force : (b : Board) (f g : ℕ) → enemy b f g ≡ false → neutral b f g ≡ false → g ≡ f
unfolding enemy neutral
same_force b f g e n =
    let k = not-false (eqb (b.desk.player f) (b.desk.player g)) e in
    either (eqb f g)
    (λ z. sym (eqb-true f g z))
    (λ z. not_both (not (eqb f g) && eqb (b.desk.player f) (b.desk.player g)) (simp (z, k)) n)

-- where neither Enemy of unit u nor a neutral force stands, all that stand there are of its force
pub all_own :
    (b : Board) (u h : ℕ) → holds_enemy (scene b) (force_of b u) h ≡ false → holds_neutral (scene b) (force_of b u) h ≡ false
    → (w : ℕ) → w < b.units.count → b.units.state.hex w ≡ h → force_of b w ≡ force_of b u
all_own b u h e n w l z =
    let f = force_of b u in
    same_force b f (force_of b w) (none Enemy e) (none Neutral n)
  where
    none : (t : Relation) → holds_related (scene b) t (force_of b u) h ≡ false → relates b t (force_of b u) (force_of b w) ≡ false
    none t x =
        let f = force_of b u in
        sym (related_here b t f h w z) ∙ any_false (related_on (scene b) t f h) b.units.count w (sym (holds_any (scene b) t f h) ∙ x) l
