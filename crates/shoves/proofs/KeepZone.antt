-- Enemy zones stay where they are while only units of one force move: "the retreating force's own do not matter to it".
-- Assumes nothing.
use Rattle.std.specs.Prelude.{Option, Some, None}
use Prim.Native.Nat.{ℕ, ◌<◌}
use mathlib.Core.Path.{◌≡◌, refl, sym, ap, ap₂, ◌∙◌}
use mathlib.Core.Bool.{Bool, true, false, not, ◌&&◌}
use lib.Dec.{eqb, ltb}
use borrow.Author.Tests.{ne_eqb}
use Rattle.position.specs.Tally.{any}
use Rattle.position.specs.Board.{Board, Map, enemy, force_of}
use Rattle.position.specs.Ground.{beside, side}
use Rattle.position.proofs.Tallies.{any_same, either, same_or}
use Rattle.acceptance.proofs.Carries.{Fixed, nationality_by, kind_by, standable_by}
use Rattle.field.specs.Scene.{Scene, force_in}
use Rattle.field.specs.Zone.{stands_on, own_on, caster_on, holds_caster, caster_at, casts_over, casts, enemy_casts, enemy_zone}
use Rattle.field.proofs.Zones.{force_in_lem, enemy_other}
use Rattle.routes.specs.Bears.{bears}

-- two scenes of one map and one set of counters, in which the units of other forces than f stand alike
pub record Beyond (f : ℕ) (s t : Scene) : Type 0 where
  pub map : t.map ≡ s.map
  pub count : t.count ≡ s.count
  pub nationality : t.nationality ≡ s.nationality
  pub kind : t.kind ≡ s.kind
  pub foe : (g : ℕ) → t.enemy f g ≡ s.enemy f g
  pub other : (g : ℕ) → s.enemy f g ≡ true → g ≡ f → ⊥
  pub hex : (w : ℕ) → w < s.count → (force_in s w ≡ f → ⊥) → t.hex w ≡ s.hex w

and_no : (x : Bool) → (x && false) ≡ false
and_no true = refl
and_no false = refl

module _ {f : ℕ} {s t : Scene} (k : Beyond f s t) where
  -- a caster of another force stands where it stood
  caster : (g : ℕ) → (g ≡ f → ⊥) → (n u : ℕ) → u < s.count → caster_on t g n u ≡ caster_on s g n u
  unfolding caster_on own_on stands_on force_in
  caster g e n u l =
      let a = ap (λ (q : ℕ → ℕ). q u) k.nationality in
      let o = ap (λ (q : ℕ → ℕ). q u) k.kind in
      same_or (force_in s u) g
      (λ z. simp (a, o, k.hex u l (λ i. e (sym z ∙ i))))
      (λ z. simp (a, o, ne_eqb (force_in s u) g z, and_no))

  held : (g : ℕ) → (g ≡ f → ⊥) → (n : ℕ) → holds_caster t g n ≡ holds_caster s g n
  unfolding holds_caster
  held g e n = ap (any (caster_on t g n)) k.count ∙ any_same (caster_on t g n) (caster_on s g n) s.count (λ u l. caster g e n u l)

  at_same : (g : ℕ) → (g ≡ f → ⊥) → (x : Option ℕ) → caster_at t g x ≡ caster_at s g x
  unfolding caster_at
  at_same g e (Some n) = held g e n
  at_same g e None = refl

  over : (g : ℕ) → (g ≡ f → ⊥) → (h d : ℕ) → casts_over t g h d ≡ casts_over s g h d
  unfolding casts_over
  over g e h d =
      ap (λ (m : Map). ltb (side m h d) 2 && caster_at t g (beside m h d)) k.map
      ∙ ap (λ (x : Bool). ltb (side s.map h d) 2 && x) (at_same g e (beside s.map h d))

  cast : (g : ℕ) → (g ≡ f → ⊥) → (h : ℕ) → casts t g h ≡ casts s g h
  unfolding casts
  cast g e h =
      ap₂ (λ (m : Map) (x : Bool). not (eqb (m.surface h) 2) && x) k.map
      (any_same (casts_over t g h) (casts_over s g h) 6 (λ d l. over g e h d))

  -- and so do their zones
  pub zone_same : (h : ℕ) → enemy_zone t f h ≡ enemy_zone s f h
  unfolding enemy_zone enemy_casts
  zone_same h =
      any_same (enemy_casts t f h) (enemy_casts s f h) 4
      (λ g l.
      either (s.enemy f g)
      (λ e. simp (k.foe g, e, cast g (k.other g e) h))
      (λ e. simp (k.foe g, e)))

-- a hex bears as before once units of force f have moved
pub bears_same :
    {b c : Board} (f : ℕ) → Fixed b c → ((w : ℕ) → w < b.units.count → (force_of b w ≡ f → ⊥) → c.units.state.hex w ≡ b.units.state.hex w)
    → (h : ℕ) → bears c f h ≡ bears b f h
unfolding bears enemy
bears_same {b} {c} f x o h =
    ap₂ (λ (p q : Bool). p && not q) (standable_by x h)
    (zone_same
    (record {
      map = x.map;
      count = x.count;
      nationality = nationality_by x;
      kind = kind_by x;
      foe = λ g. ap (λ (q : ℕ → ℕ). not (eqb (q f) (q g))) x.players;
      other = enemy_other b f;
      hex = λ w l n. o w l (λ z. n (sym (force_in_lem b w) ∙ z));
    })
    h)
