-- A chain told on the board is a chain over what each hex is to the group.
-- Assumes nothing.
use Rattle.std.specs.Prelude.{Option, Some, None}
use Prim.Native.Nat.{ℕ, ◌<◌}
use mathlib.Core.Path.{◌≡◌, refl, sym, ap, ◌∙◌}
use mathlib.Core.Bool.{Bool, true, false}
use mathlib.Core.List.{List, ◌∷◌}
use Rattle.position.specs.Board.{Board}
use Rattle.position.specs.Ground.{next}
use Rattle.position.proofs.Tallies.{any_false, any_never, both_yes, either, not_both, same_or}
use Rattle.field.specs.Listed.{named}
use Rattle.field.specs.Scene.{scene}
use Rattle.field.specs.Zone.{vacant}
use Rattle.field.proofs.Named.{named_more, named_past}
use Rattle.routes.specs.Bears.{bears, refuge}
use Rattle.chains.specs.declared.Stand.TheVariants.{Free, Loose}
use Rattle.chains.specs.Stand.{stand}
use Rattle.chains.specs.Chain.{Stands, Chain, rest, push, rests, yields, leads_to, has_rest}
use Rattle.shoves.specs.Played.{CanBePushed, NoRefuge, ChainOn, settles, displaces}
use Rattle.shoves.proofs.KeepMove.{vacant_none}
use Rattle.shoves.proofs.KeepChain.{rests_free, yields_loose}
use Rattle.shoves.proofs.Standing.{
  Light,
  IsLoose,
  apart_here,
  apart_off,
  apart_stands,
  free_is,
  free_vacant,
  is_free_lem,
  is_light,
  is_loose_lem,
  light_is,
  loose_is,
}

-- a hex in which a unit stands is not vacant
pub held_by : (b : Board) (z w : ℕ) → w < b.units.count → b.units.state.hex w ≡ z → vacant (scene b) z ≡ false
held_by b z w l e = either (vacant (scene b) z) (λ v. absurd (vacant_none b z w v l e)) (λ v. v)

-- a refuge is vacant and bears
pub refuge_parts : (b : Board) (f z : ℕ) → refuge b f z ≡ true → (vacant (scene b) z ≡ true) × (bears b f z ≡ true)
unfolding refuge
refuge_parts b f z e = both_yes (vacant (scene b) z) (bears b f z) e

module _ (b : Board) (f a z : ℕ) where
  -- a vacant hex that bears is free,
  pub refuge_free : refuge b f z ≡ true → stand b f a z ≡ Free
  refuge_free e =
      let k = refuge_parts b f z e in
      is_free_lem b f a z (record { bear = k.1; none = λ w l. apart_off b a z w (vacant_none b z w k.0 l) })

  module _ (n : z ≡ a → ⊥) where
    -- and a free one is vacant, but for the group's own;
    pub free_refuge : stand b f a z ≡ Free → refuge b f z ≡ true
    unfolding refuge
    free_refuge e = let i = free_is b f a z e in simp (free_vacant b f a z n i, i.bear)

    -- a stack that can be pushed makes a hex loose, and there is one in a loose hex
    pub can_loose : CanBePushed b f z → stand b f a z ≡ Loose
    can_loose c =
        is_loose_lem b f a z
        (record {
          bear = c.bear;
          unit = c.unit;
          counted = c.counted;
          there = apart_here b a z c.unit n c.there;
          light =
              λ w l e.
              let s = apart_stands b a z w e in
              is_light b f w (record { own = c.own w l s; kind = c.kind w l s; role = c.role w l s });
        })

    -- every unit of a loose hex can be pushed
    light_there : IsLoose b f a z → (w : ℕ) → w < b.units.count → b.units.state.hex w ≡ z → Light b f w
    light_there i w l e = light_is b f w (i.light w l (apart_here b a z w n e))

    pub loose_can : stand b f a z ≡ Loose → CanBePushed b f z
    loose_can e =
        let i = loose_is b f a z e in
        record {
          bear = i.bear;
          unit = i.unit;
          counted = i.counted;
          there = apart_stands b a z i.unit i.there;
          own = λ w l q. (light_there i w l q).own;
          kind = λ w l q. (light_there i w l q).kind;
          role = λ w l q. (light_there i w l q).role;
        }

-- the hexes of a list are none of them vacant
abbrev pub AllHeld : Board → List ℕ → Type 0
AllHeld b used = (w : ℕ) → named used w ≡ true → vacant (scene b) w ≡ false

-- and one more of them
pub held_more : (b : Board) (h : ℕ) (used : List ℕ) → AllHeld b used → vacant (scene b) h ≡ false → AllHeld b (h ∷ used)
held_more b h used k v w e =
    same_or h w (λ q. ap (vacant (scene b)) (sym q) ∙ v) (λ n. k w (sym (named_past h used w n) ∙ e))

-- where a step leads to no hex that passes the test
leads_not : (t : ℕ → Bool) (x : Option ℕ) → ((z : ℕ) → x ≡ Some z → t z ≡ true → ⊥) → leads_to t x ≡ false
unfolding leads_to
leads_not t (Some z) n = either (t z) (λ e. absurd (n z refl e)) (λ e. e)
leads_not t None n = refl

-- and where it leads to one hex
leads_at : (t : ℕ → Bool) (x : Option ℕ) (z : ℕ) → x ≡ Some z → leads_to t x ≡ t z
unfolding leads_to
leads_at t x z e = simp e

-- where a stack may go, and which it may push
module _ (s : Stands) (used : List ℕ) (z : ℕ) (n : named used z ≡ false) where
  free_rests : s z ≡ Free → rests s used z ≡ true
  unfolding rests
  free_rests e = simp (e, n)

  loose_yields : s z ≡ Loose → yields s used z ≡ true
  unfolding yields
  loose_yields e = simp (e, n)

module _ (b : Board) (f a : ℕ) where
  -- a hex that is not in a list is not one that is
  off : (used : List ℕ) (z : ℕ) → named used a ≡ true → named used z ≡ false → z ≡ a → ⊥
  off used z u n e = not_both (named used z) (ap (named used) e ∙ u) n

  module _ (used : List ℕ) (h : ℕ) where
    -- whether the stack in hex h has a vacant place in direction d
    abbrev places : ℕ → Bool
    places d = leads_to (rests (stand b f a) used) (next b.map h d)

    -- without a refuge it has none at all, and the other way round
    none_rests : named used a ≡ true → NoRefuge b f h → has_rest (next b.map) (stand b f a) used h ≡ false
    unfolding has_rest
    none_rests u n =
        any_never places 6
        (λ d l.
        leads_not (rests (stand b f a) used) (next b.map h d)
        (λ z e r.
        let k = rests_free (stand b f a) used z r in
        n d z l e (free_refuge b f a z (off used z u k.1) k.0)))

    rests_none : AllHeld b used → has_rest (next b.map) (stand b f a) used h ≡ false → NoRefuge b f h
    unfolding has_rest
    rests_none k m d z l e r =
        let v = (refuge_parts b f z r).0 in
        let n = either (named used z) (λ y. not_both (vacant (scene b) z) v (k z y)) (λ y. y) in
        not_both (places d)
        (leads_at (rests (stand b f a) used) (next b.map h d) z e
        ∙ free_rests (stand b f a) used z n (refuge_free b f a z r))
        (any_false places 6 d m l)

  -- a chain over the stands is one on the board, and the other way round
  pub chain_played :
      {used zs : List ℕ} {left h last : ℕ} → Chain (next b.map) (stand b f a) used left h zs last → named used a ≡ true → AllHeld b used
      → vacant (scene b) h ≡ false → ChainOn b f used left h zs last
  chain_played (rest {used} {left} {h} {z} d l e r) u k v =
      let i = rests_free (stand b f a) (h ∷ used) z r in
      settles d l e (free_refuge b f a z (off (h ∷ used) z (named_more h used a u) i.1) i.0) i.1
  chain_played (push {used} {left} {h} {z} {last} {zs} d l e m r c) u k v =
      let i = yields_loose (stand b f a) (h ∷ used) z r in
      let u' = named_more h used a u in
      let k' = held_more b h used k v in
      let can = loose_can b f a z (off (h ∷ used) z u' i.1) i.0 in
      displaces d l e (rests_none (h ∷ used) h k' m) can i.1
      (chain_played c u' k' (held_by b z can.unit can.counted can.there))

  pub played_chain :
      {used zs : List ℕ} {left h last : ℕ} → ChainOn b f used left h zs last → named used a ≡ true
      → Chain (next b.map) (stand b f a) used left h zs last
  played_chain (settles {used} {left} {h} {z} d l e r n) u =
      rest d l e (free_rests (stand b f a) (h ∷ used) z n (refuge_free b f a z r))
  played_chain (displaces {used} {left} {h} {z} {last} {zs} d l e m c n k) u =
      let u' = named_more h used a u in
      push d l e (none_rests (h ∷ used) h u' m)
      (loose_yields (stand b f a) (h ∷ used) z n (can_loose b f a z (off (h ∷ used) z u' n) c))
      (played_chain k u')
