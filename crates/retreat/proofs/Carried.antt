-- Where a chain of pushes carries each unit: a unit of a hex that is cleared goes to the next hex of the chain, and all others stay.
-- Assumes nothing.
use Prim.Native.Nat.{ℕ, ◌≤◌, ◌<◌}
use mathlib.Core.Path.{◌≡◌, refl, sym, ap, ◌∙◌}
use mathlib.Core.Bool.{true, false}
use mathlib.Core.List.{List, [], ◌∷◌, ◌++◌}
use native.Mathlib.Omega.{arith}
use borrow.Author.Tests.{eq-eqb, eqb-true, lt-ltb, ne_eqb}
use Rattle.position.specs.Board.{Board, nowhere}
use Rattle.position.specs.Change.Change.{placed}
use Rattle.position.specs.Effect.{change, changes}
use Rattle.position.proofs.Effects.{upd_there}
use Rattle.position.proofs.Tallies.{either, not_both, same_or}
use Rattle.acceptance.proofs.Carries.{changes_then}
use Rattle.acceptance.proofs.Lawfuls.{standable_on}
use Rattle.acceptance.proofs.Stills.{fixed_changes, fixed_refl}
use Rattle.field.specs.Listed.{named}
use Rattle.field.specs.Scene.{scene}
use Rattle.field.specs.Zone.{stands_on, vacant}
use Rattle.field.proofs.Named.{named_here, named_more, sieve_names, unnamed_parts}
use Rattle.field.proofs.Zones.{stands_here}
use Rattle.routes.specs.Bears.{bears}
use Rattle.chains.specs.declared.Stand.TheVariants.{Loose}
use Rattle.chains.specs.Stand.{stand}
use Rattle.chains.specs.Chain.{Ways, Chain, rest, push}
use Rattle.shoves.specs.Group.{stack}
use Rattle.shoves.specs.Played.{once_cleared}
use Rattle.shoves.specs.Shoves.{clears, shifts, stack_to}
use Rattle.shoves.proofs.KeepChain.{bears_stands, clears_vacant, rests_free, yields_loose}
use Rattle.shoves.proofs.Standing.{free_is, free_vacant, loose_held, loose_is}
use Rattle.shoves.proofs.Sweeps.{own_shifts}
use Rattle.retreat.specs.Units.{carried}
use Rattle.retreat.proofs.Dealt.{Lasts, dealt, missed, sieve_not}

-- the stack of hex h goes to hex z: unit w goes if it stands in h, and is else where it was
pub record Moved (b c : Board) (h z w : ℕ) : Type 0 where
  pub here : b.units.state.hex w ≡ h → c.units.state.hex w ≡ z
  pub else : (b.units.state.hex w ≡ h → ⊥) → c.units.state.hex w ≡ b.units.state.hex w
  pub marks : c.units.state.marks w ≡ b.units.state.marks w

-- unit w is in hex z, its marks as they were
abbrev pub Put : ℕ → ℕ → Board → Board → Type 0
Put z w b c = (c.units.state.hex w ≡ z) × (c.units.state.marks w ≡ b.units.state.marks w)

lasts_put : (z w : ℕ) → Lasts w (Put z w)
lasts_put z w =
    record {
      before = λ s x. (x.0, x.1 ∙ s.marks);
      after = λ x s. (s.hex ∙ x.0, s.marks ∙ x.1);
      again = λ x y. (y.0, y.1 ∙ x.1);
    }

pub placed_put : (c : Board) (u z : ℕ) → u < c.units.count → z < c.map.hexes → Put z u c (change c (placed u z))
unfolding change
placed_put c u z l m = simp (lt-ltb z c.map.hexes m) (upd_there c.units.count c.units.state.hex u z l, refl)

pub stack_moved : (b : Board) (h z w : ℕ) → w < b.units.count → z < b.map.hexes → Moved b (changes b (stack_to b h z)) h z w
unfolding stack_to stack stands_on changes shifts
stack_moved b h z w l m =
    let t = stands_on (scene b) h in
    let n = b.units.count in
    either (t w)
    (λ e.
    let y =
    dealt (shifts z) (own_shifts z) w (lasts_put z w)
    (λ c f. placed_put c w z (omega (arith, f.count)) (rw f.map m))
    (stack b h)
    b
    (fixed_refl b)
    (sieve_names t n w l e)
    in
    record { here = λ _. y.0; else = λ i. absurd (i (eqb-true (b.units.state.hex w) h e)); marks = y.1 })
    (λ e.
    let y = missed (shifts z) (own_shifts z) w (stack b h) b (sieve_not t n w e) in
    record { here = λ i. not_both (t w) (stands_here (scene b) h w i) e; else = λ _. y.hex; marks = y.marks })

-- a vacant hex is cleared by nothing, and a held one after the next
module _ (b : Board) (x : ℕ) where
  pub carried_vacant : vacant (scene b) x ≡ true → (ps : List ℕ) (y : ℕ) → carried b x ps y ≡ y
  unfolding carried
  carried_vacant e [] y = refl
  carried_vacant e (z ∷ ps) y = simp e

  module _ (e : vacant (scene b) x ≡ false) (z : ℕ) (ps : List ℕ) where
    carried_here : (y : ℕ) → y ≡ x → carried b x (z ∷ ps) y ≡ z
    unfolding carried
    carried_here y i = simp (e, eq-eqb y x i)

    carried_else : (y : ℕ) → (y ≡ x → ⊥) → carried b x (z ∷ ps) y ≡ carried b z ps y
    unfolding carried
    carried_else y i = simp (e, ne_eqb y x i)

    once_held : once_cleared b x (z ∷ ps) ≡ (let c = once_cleared b z ps in changes c (stack_to c x z))
    unfolding clears
    once_held = simp e (changes_then (clears b z ps).done (stack_to (once_cleared b z ps) x z) b)

-- a chain carries nobody out of hex h or into it
record Past (b : Board) (x : ℕ) (ps : List ℕ) (h : ℕ) : Type 0 where
  pub stays : carried b x ps h ≡ h
  pub only : (y : ℕ) → carried b x ps y ≡ h → y ≡ h

module _ (b : Board) (f a : ℕ) where
  -- one push, if what comes after it passes hex h
  past_more :
      (x z : ℕ) (ps : List ℕ) (h : ℕ) → vacant (scene b) x ≡ false → (h ≡ x → ⊥) → (h ≡ z → ⊥) → Past b z ps h → Past b x (z ∷ ps) h
  past_more x z ps h e n m p =
      record {
        stays = carried_else b x e z ps h n ∙ p.stays;
        only =
            λ y i.
            same_or y x
            (λ q. absurd (m (sym i ∙ carried_here b x e z ps y q)))
            (λ q. p.only y (sym (carried_else b x e z ps y q) ∙ i));
      }

  past_vacant : (x : ℕ) (ps : List ℕ) (h : ℕ) → vacant (scene b) x ≡ true → Past b x ps h
  past_vacant x ps h v = record { stays = carried_vacant b x v ps h; only = λ y i. sym (carried_vacant b x v ps y) ∙ i }

  -- "no hex comes twice": a hex of the chain that came before is passed
  chain_past :
      {next : Ways} {used zs : List ℕ} {left x last : ℕ} → Chain next (stand b f a) used left x zs last → named used a ≡ true
      → stand b f a x ≡ Loose → (others : List ℕ) (h : ℕ) → named used h ≡ true → (h ≡ x → ⊥) → Past b x (zs ++ others) h
  chain_past (rest {used} {left} {h = x} {z} d l e r) u i others h k n =
      let q = rests_free (stand b f a) (x ∷ used) z r in
      let off : (y : ℕ) → named used y ≡ true → y ≡ z → ⊥ =
      λ y j s. not_both (named (x ∷ used) z) (ap (named (x ∷ used)) (sym s) ∙ named_more x used y j) q.1
      in
      past_more x z others h (loose_held b f a x (loose_is b f a x i)) n (off h k)
      (past_vacant z others h (free_vacant b f a z (λ s. off a u (sym s)) (free_is b f a z q.0)))
  chain_past (push {used} {left} {h = x} {z} {last} {zs} d l e m r c) u i others h k n =
      let q = yields_loose (stand b f a) (x ∷ used) z r in
      let off : h ≡ z → ⊥ = λ s. not_both (named (x ∷ used) z) (ap (named (x ∷ used)) (sym s) ∙ named_more x used h k) q.1 in
      past_more x z (zs ++ others) h (loose_held b f a x (loose_is b f a x i)) n off
      (chain_past c (named_more x used a u) q.0 others h (named_more x used h k) off)

-- board c, once hex x of board b is cleared by these pushes: each unit is where they carry it, and whoever is in the box stays there
pub record Shoved (b : Board) (x : ℕ) (ps : List ℕ) (c : Board) : Type 0 where
  pub hex : (w : ℕ) → w < b.units.count → c.units.state.hex w ≡ carried b x ps (b.units.state.hex w)
  pub marks : (w : ℕ) → w < b.units.count → c.units.state.marks w ≡ b.units.state.marks w
  pub boxed : (w : ℕ) → w < b.units.count → b.units.state.hex w ≡ nowhere → c.units.state.hex w ≡ nowhere

pub shoved_vacant : (b : Board) (x : ℕ) → vacant (scene b) x ≡ true → (ps : List ℕ) → Shoved b x ps b
shoved_vacant b x v ps =
    record {
      hex = λ w l. sym (carried_vacant b x v ps (b.units.state.hex w));
      marks = λ w l. refl;
      boxed = λ w l e. e;
    }

-- one push more: the stack of hex x follows into hex z
shoved_more :
    (b : Board) (x z : ℕ) (ps : List ℕ) → vacant (scene b) x ≡ false → z < b.map.hexes → (x ≡ nowhere → ⊥) → Past b z ps x
    → Shoved b z ps (once_cleared b z ps) → Shoved b x (z ∷ ps) (once_cleared b x (z ∷ ps))
shoved_more b x z ps e m real p s =
    let c = once_cleared b z ps in
    let f = fixed_changes (clears b z ps).done b in
    let moved : (w : ℕ) → w < b.units.count → Moved c (changes c (stack_to c x z)) x z w =
    λ w l. stack_moved c x z w (omega (arith, f.count)) (rw f.map m)
    in
    rw (once_held b x e z ps)
    (record {
      hex =
          λ w l.
          let y = b.units.state.hex w in
          same_or y x
          (λ i. (moved w l).here (s.hex w l ∙ ap (carried b z ps) i ∙ p.stays) ∙ sym (carried_here b x e z ps y i))
          (λ i.
          (moved w l).else (λ j. i (p.only y (sym (s.hex w l) ∙ j)))
          ∙ s.hex w l
          ∙ sym (carried_else b x e z ps y i));
      marks = λ w l. (moved w l).marks ∙ s.marks w l;
      boxed = λ w l i. let j = s.boxed w l i in (moved w l).else (λ k. real (sym k ∙ j)) ∙ j;
    })

module _ (b : Board) (most : b.map.hexes ≤ nowhere) (f a : ℕ) where
  on_map_lem : (x : ℕ) → bears b f x ≡ true → x < b.map.hexes
  on_map_lem x e = standable_on b x (bears_stands b f x e)

  -- the whole chain
  pub chain_shoved :
      {next : Ways} {used zs : List ℕ} {left x last : ℕ} → Chain next (stand b f a) used left x zs last → named used a ≡ true
      → stand b f a x ≡ Loose → (others : List ℕ) → Shoved b x (zs ++ others) (once_cleared b x (zs ++ others))
  unfolding changes
  chain_shoved (rest {used} {left} {h = x} {z} d l e r) u i others =
      let q = rests_free (stand b f a) (x ∷ used) z r in
      let free = free_is b f a z q.0 in
      let off : z ≡ a → ⊥ = λ s. not_both (named (x ∷ used) z) (ap (named (x ∷ used)) s ∙ named_more x used a u) q.1 in
      let v = free_vacant b f a z off free in
      let loose = loose_is b f a x i in
      let j = on_map_lem x loose.bear in
      shoved_more b x z others (loose_held b f a x loose) (on_map_lem z free.bear) (λ k. omega (arith, j)) (past_vacant b f a z others x v)
      (rw (clears_vacant b z v others) (shoved_vacant b z v others))
  chain_shoved (push {used} {left} {h = x} {z} {last} {zs} d l e m r c) u i others =
      let q = yields_loose (stand b f a) (x ∷ used) z r in
      let loose = loose_is b f a x i in
      let j = on_map_lem x loose.bear in
      shoved_more b x z (zs ++ others) (loose_held b f a x loose) (on_map_lem z (loose_is b f a z q.0).bear) (λ k. omega (arith, j))
      (chain_past b f a c (named_more x used a u) q.0 others x (named_here x used x refl) (unnamed_parts x used z q.1).0)
      (chain_shoved c (named_more x used a u) q.0 others)
