-- A chain is done: the board between is lawful in its lines on units, and what each hex is to the group has changed in two hexes alone.
-- Assumes nothing.
use Prim.Native.Nat.{ℕ, ◌≤◌, ◌<◌}
use mathlib.Core.Path.{◌≡◌, refl, sym, ap, fun_ext, ◌∙◌}
use mathlib.Core.Bool.{true, false, not}
use mathlib.Core.List.{List, [], ◌∷◌, ◌++◌}
use native.Mathlib.Omega.{arith}
use borrow.Author.Tests.{eq-eqb, eqb-true, ne_eqb, not-true}
use Rattle.position.specs.Board.{Board, force_of, nowhere}
use Rattle.position.specs.Crowd.{owes_at}
use Rattle.position.specs.Ground.{standable}
use Rattle.position.specs.Effect.{changes}
use Rattle.position.specs.Role as Role
use Rattle.position.proofs.Tallies.{both_yes, either, not_both, same_or}
use Rattle.acceptance.proofs.Carries.{Fixed, changes_then, force_by}
use Rattle.acceptance.proofs.Lawfuls.{standable_on}
use Rattle.acceptance.proofs.Since.{Since}
use Rattle.acceptance.proofs.Stills.{fixed_trans}
use Rattle.field.specs.Listed.{named}
use Rattle.field.specs.Scene.{scene}
use Rattle.field.specs.Zone.{stands_on, vacant}
use Rattle.field.proofs.Lists.{named_nil}
use Rattle.field.proofs.Named.{named_more, sieve_each, sieve_names, unnamed_parts}
use Rattle.field.proofs.Zones.{stands_here}
use Rattle.routes.specs.Bears.{bears}
use Rattle.chains.specs.declared.Stand.{Stand}
use Rattle.chains.specs.declared.Stand.TheVariants.{Shut, Free, Loose}
use Rattle.chains.specs.Stand.{apart, stand, is_free, is_loose}
use Rattle.chains.specs.Chain.{Ways, Stands, Chain, rest, push, rests, yields, after}
use Rattle.shoves.specs.Group.{stack}
use Rattle.shoves.specs.Shoves.{Cleared, clears, shifts, stack_to}
use Rattle.shoves.proofs.KeepZone.{bears_same}
use Rattle.shoves.proofs.KeepMove.{Going, Goes, all_gone, vacant_none}
use Rattle.shoves.proofs.Standing.{Light, IsLoose, apart_here, apart_off, apart_same, apart_stands, firm_same, free_is, free_vacant, is_free_lem, is_loose_lem, light_is, loose_held, loose_is, stand_same}

-- board c, since board b, after pushes: nobody's role has changed, and who owes stands where it stood, as does whoever is of another force
pub record Pushes (o b : Board) (f : ℕ) (c : Board) : Type 0 where
  pub since : Since o c
  pub fixed : Fixed b c
  pub desk : c.desk ≡ b.desk
  pub roles : (w : ℕ) → w < b.units.count → c.units.state.role w ≡ b.units.state.role w
  pub still : (w : ℕ) → w < b.units.count → b.units.state.role w ≡ Role.owes → c.units.state.hex w ≡ b.units.state.hex w
  pub others : (w : ℕ) → w < b.units.count → (force_of b w ≡ f → ⊥) → c.units.state.hex w ≡ b.units.state.hex w

-- and hex x is empty, while a stack that can be pushed stands in hex y
pub record Shifted (o b : Board) (f a x y : ℕ) (c : Board) : Type 0 where
  pub pushes : Pushes o b f c
  pub stands : stand c f a ≡ after (stand b f a) x y
  pub empty : vacant (scene c) x ≡ true

pub bears_stands : (b : Board) (f h : ℕ) → bears b f h ≡ true → standable b h ≡ true
unfolding bears
bears_stands b f h e = (both_yes (standable b h) _ e).0

module _ {o b : Board} (s : Since o b) (most : o.map.hexes ≤ nowhere) (f a : ℕ) where
  small : b.map.hexes ≤ nowhere
  small = rw s.fixed.map most

  pub real_hex : (h : ℕ) → standable b h ≡ true → h ≡ nowhere → ⊥
  real_hex h e z = omega (arith, standable_on b h e, small)

  -- one stack goes to a vacant hex
  module _
      (h z : ℕ)
      (i : IsLoose b f a h)
      (n : h ≡ a → ⊥)
      (v : vacant (scene b) z ≡ true)
      (q : bears b f z ≡ true) where
    abbrev moved : Board
    moved = changes b (stack_to b h z)

    on_hex : (w : ℕ) → w < b.units.count → stands_on (scene b) h w ≡ true → b.units.state.hex w ≡ h
    unfolding stands_on
    on_hex w l e = eqb-true (b.units.state.hex w) h e

    goes : Goes z (λ u. false) false (shifts z)
    unfolding shifts
    goes = record { is = λ u. refl }

    going : Going o b z (stands_on (scene b) h) (λ u. false) false [] moved
    unfolding stack_to stack
    going =
        let t = stands_on (scene b) h in
        all_gone s most h z t (λ u. false) false on_hex (real_hex h (bears_stands b f h i.bear)) (bears_stands b f z q) v (shifts z) goes (stack b h)
        (sieve_each t b.units.count)
        (sieve_names t b.units.count)

    light : (w : ℕ) → w < b.units.count → b.units.state.hex w ≡ h → Light b f w
    light w l e = light_is b f w (i.light w l (apart_here b a h w n e))

    -- a unit of the stack has gone, any other stands where it stood
    fate :
        {A : Type 0} (w : ℕ) → w < b.units.count → (b.units.state.hex w ≡ h → moved.units.state.hex w ≡ z → A)
        → ((b.units.state.hex w ≡ h → ⊥) → moved.units.state.hex w ≡ b.units.state.hex w → A) → A
    fate w l here else =
        let t = stands_on (scene b) h in
        either (t w)
        (λ e. here (on_hex w l e) (going.went w l e refl (named_nil w)).0)
        (λ e.
        same_or (b.units.state.hex w) h
        (λ y. not_both (t w) (stands_here (scene b) h w y) e)
        (λ y. else y (going.kept w e).hex))

    role_same : (w : ℕ) → w < b.units.count → moved.units.state.role w ≡ b.units.state.role w
    role_same w l =
        let t = stands_on (scene b) h in
        either (t w) (λ e. going.held w l e refl refl) (λ e. (going.kept w e).role)

    pub pushed : Pushes o b f moved
    pushed =
        record {
          since = going.since;
          fixed = going.fixed;
          desk = going.desk;
          roles = role_same;
          still = λ w l e. fate w l (λ y _. absurd ((light w l y).role e)) (λ _ y. y);
          others = λ w l e. fate w l (λ y _. absurd (e (light w l y).own)) (λ _ y. y);
        }

    apart_hex : h ≡ z → ⊥
    apart_hex e = vacant_none b z i.unit v i.counted (apart_stands b a h i.unit i.there ∙ e)

    bear : (y : ℕ) → bears moved f y ≡ bears b f y
    bear = bears_same f pushed.fixed pushed.others

    count : moved.units.count ≡ b.units.count
    count = pushed.fixed.count

    empty_hex : (w : ℕ) → w < b.units.count → moved.units.state.hex w ≡ h → ⊥
    empty_hex w l e = fate w l (λ _ y. apart_hex (sym e ∙ y)) (λ y r. y (sym r ∙ e))

    freed : stand moved f a h ≡ Free
    freed =
        is_free_lem moved f a h
        (record {
          bear = bear h ∙ i.bear;
          none = λ w l. let k : w < b.units.count = omega (arith, count) in apart_off moved a h w (empty_hex w k);
        })

    owes_not : (w : ℕ) → w < b.units.count → b.units.state.hex w ≡ h → owes_at moved a w ≡ false
    unfolding owes_at
    owes_not w l e = simp (ne_eqb (moved.units.state.role w) Role.owes (λ y. (light w l e).role (sym (role_same w l) ∙ y)))

    apart_z : (w : ℕ) → w < b.units.count → b.units.state.hex w ≡ h → apart moved a z w ≡ true
    unfolding apart
    apart_z w l e =
        simp (owes_not w l e, stands_here (scene moved) z w (fate w l (λ _ y. y) (λ y _. absurd (y e))))

    loosened : stand moved f a z ≡ Loose
    loosened =
        is_loose_lem moved f a z
        (record {
          bear = bear z ∙ q;
          unit = i.unit;
          counted = omega (arith, count, i.counted);
          there = apart_z i.unit i.counted (apart_stands b a h i.unit i.there);
          light =
              λ w l e.
              let k : w < b.units.count = omega (arith, count) in
              let y = apart_stands moved a z w e in
              firm_same f w pushed.fixed (role_same w k)
              ∙ fate w k (λ r _. i.light w k (apart_here b a h w n r))
              (λ _ r. absurd (vacant_none b z w v k (sym r ∙ y)));
        })

    beyond : (y : ℕ) → (y ≡ h → ⊥) → (y ≡ z → ⊥) → stand moved f a y ≡ stand b f a y
    beyond y j k =
        stand_same f a a y pushed.fixed (bear y)
        (λ w l.
        fate w l
        (λ r m. apart_off moved a y w (λ e. k (sym e ∙ m)) ∙ sym (apart_off b a y w (λ e. j (sym e ∙ r))))
        (λ _ r. apart_same b moved a y w r (role_same w l)))
        (λ w l _. role_same w l)

    stood : (y : ℕ) → stand moved f a y ≡ after (stand b f a) h z y
    unfolding after
    stood y =
        same_or y z
        (λ e. simp (eq-eqb y z e) (ap (stand moved f a) e ∙ loosened))
        (λ e.
        same_or y h
        (λ d. simp (ne_eqb y z e, eq-eqb y h d) (ap (stand moved f a) d ∙ freed))
        (λ d. simp (ne_eqb y z e, ne_eqb y h d) (beyond y d e)))

    pub shifted : Shifted o b f a h z moved
    shifted =
        record {
          pushes = pushed;
          stands = fun_ext stood;
          empty = free_vacant moved f a h n (free_is moved f a h freed);
        }

-- one after another
pushes_trans : {o b c d : Board} {f : ℕ} → Pushes o b f c → Pushes o c f d → Pushes o b f d
pushes_trans {o} {b} {c} {d} {f} x y =
    record {
      since = y.since;
      fixed = fixed_trans x.fixed y.fixed;
      desk = y.desk ∙ x.desk;
      roles = λ w l. y.roles w (on w l) ∙ x.roles w l;
      still = λ w l e. y.still w (on w l) (x.roles w l ∙ e) ∙ x.still w l e;
      others = λ w l n. y.others w (on w l) (λ e. n (sym (force_by x.fixed w) ∙ e)) ∙ x.others w l n;
    }
  where
    on : (w : ℕ) → w < b.units.count → w < c.units.count
    on w l = omega (arith, x.fixed.count)

free_from : (x : Stand) → is_free x ≡ true → x ≡ Free
free_from Shut e = not_both false e refl
free_from Free e = refl
free_from Loose e = not_both false e refl

loose_from : (x : Stand) → is_loose x ≡ true → x ≡ Loose
loose_from Shut e = not_both false e refl
loose_from Free e = not_both false e refl
loose_from Loose e = refl

-- where a stack may go, and which it may push
module _ (s : Stands) (used : List ℕ) (z : ℕ) where
  pub rests_free : rests s used z ≡ true → (s z ≡ Free) × (named used z ≡ false)
  unfolding rests
  rests_free e =
      let i = both_yes (is_free (s z)) (not (named used z)) e in (free_from (s z) i.0, not-true (named used z) i.1)

  pub yields_loose : yields s used z ≡ true → (s z ≡ Loose) × (named used z ≡ false)
  unfolding yields
  yields_loose e =
      let i = both_yes (is_loose (s z)) (not (named used z)) e in (loose_from (s z) i.0, not-true (named used z) i.1)

-- a chain's last hex is vacant
pub chain_last : {next : Ways} {s : Stands} {used zs : List ℕ} {left h last : ℕ} → Chain next s used left h zs last → s last ≡ Free
chain_last {s = s} (rest {used} {left} {h} {z} d l e r) = (rests_free s (h ∷ used) z r).0
chain_last (push d l e n r k) = chain_last k

free_loose : (s : Stands) (x y : ℕ) → s x ≡ Loose → s y ≡ Free → x ≡ y → ⊥
free_loose s x y p q e = not_both (is_loose (s x)) (ap is_loose p) (ap is_loose (ap s e ∙ q))

-- and so none that holds a stack
pub chain_other :
    {next : Ways} {s : Stands} {used zs : List ℕ} {left h last x : ℕ} → Chain next s used left h zs last → s x ≡ Loose → x ≡ last → ⊥
chain_other {s = s} {last = last} {x = x} c e = free_loose s x last e (chain_last c)

-- a vacant hex takes no push, and a held one the first
module _ (b : Board) where
  pub clears_vacant : (h : ℕ) → vacant (scene b) h ≡ true → (ps : List ℕ) → clears b h ps ≡ record { done = []; left = ps }
  unfolding clears
  clears_vacant h e [] = refl
  clears_vacant h e (z ∷ ps) = simp e

  clears_held :
      (h z : ℕ) (ps : List ℕ) → vacant (scene b) h ≡ false
      → clears b h (z ∷ ps)
      ≡ record { done = (clears b z ps).done ++ stack_to (changes b (clears b z ps).done) h z; left = (clears b z ps).left }
  unfolding clears
  clears_held h z ps e = simp e

-- what two hexes are after a chain from hex z to hex `last`: one before it is loose still, and its own is free
module _ (s t : Stands) (h z last : ℕ) (e : t ≡ after s z last) where
  still_loose : s h ≡ Loose → s z ≡ Loose → s last ≡ Free → (h ≡ z → ⊥) → t h ≡ Loose
  unfolding after
  still_loose i j k n =
      ap (λ (g : Stands). g h) e
      ∙ simp (ne_eqb h last (free_loose s h last i k), ne_eqb h z n) i

  now_free : s z ≡ Loose → s last ≡ Free → t z ≡ Free
  unfolding after
  now_free j k = ap (λ (g : Stands). g z) e ∙ simp (ne_eqb z last (free_loose s z last j k), eq-eqb z z refl)

-- what was done to clear hex h by a chain that ends in hex `last`, and what is left of the pushes
pub record ClearedBy (o b : Board) (f a h last : ℕ) (left : List ℕ) (r : Cleared) : Type 0 where
  pub left_over : r.left ≡ left
  pub shifted : Shifted o b f a h last (changes b r.done)

module _ {o b : Board} (s : Since o b) (most : o.map.hexes ≤ nowhere) (f a : ℕ) where
  two_shifts :
      (h z last : ℕ) {c d : Board} → stand b f a h ≡ Loose → stand b f a z ≡ Loose → stand b f a last ≡ Free → (h ≡ z → ⊥)
      → Shifted o b f a z last c → Shifted o c f a h z d → Shifted o b f a h last d
  unfolding after
  two_shifts h z last i j k n x y =
      record {
        pushes = pushes_trans x.pushes y.pushes;
        stands =
            fun_ext
            (λ w.
            ap (λ (g : Stands). g w) y.stands
            ∙ ap (λ (g : Stands). after g h z w) x.stands
            ∙ settled w);
        empty = y.empty;
      }
    where
      settled : (w : ℕ) → after (after (stand b f a) z last) h z w ≡ after (stand b f a) h last w
      settled w =
          same_or w last
          (λ e.
          simp (
            eq-eqb w last e,
            ne_eqb w z (λ q. free_loose (stand b f a) z last j k (sym q ∙ e)),
            ne_eqb w h (λ q. free_loose (stand b f a) h last i k (sym q ∙ e)),
          ))
          (λ e.
          same_or w z
          (λ q. simp (ne_eqb w last e, eq-eqb w z q, ne_eqb w h (λ r. n (sym r ∙ q))) (sym j ∙ ap (stand b f a) (sym q)))
          (λ q. simp (ne_eqb w last e, ne_eqb w z q)))

  pub chain_clears :
      {next : Ways} {used zs : List ℕ} {left h last : ℕ} → Chain next (stand b f a) used left h zs last → named used a ≡ true → (h ≡ a → ⊥)
      → stand b f a h ≡ Loose → (others : List ℕ) → ClearedBy o b f a h last others (clears b h (zs ++ others))
  unfolding changes
  chain_clears (rest {used} {left} {h} {z} d l e r) u n i others =
      let k = rests_free (stand b f a) (h ∷ used) z r in
      let off : z ≡ a → ⊥ = λ q. not_both (named (h ∷ used) z) (ap (named (h ∷ used)) q ∙ named_more h used a u) k.1 in
      let free = free_is b f a z k.0 in
      let v = free_vacant b f a z off free in
      let loose = loose_is b f a h i in
      rw (clears_held b h z others (loose_held b f a h loose), clears_vacant b z v others)
      (record { left_over = refl; shifted = shifted s most f a h z loose n v free.bear })
  chain_clears (push {used} {left} {h} {z} {last} {zs} d l e m r c) u n i others =
      let k = yields_loose (stand b f a) (h ∷ used) z r in
      let off : z ≡ a → ⊥ = λ q. not_both (named (h ∷ used) z) (ap (named (h ∷ used)) q ∙ named_more h used a u) k.1 in
      let apart : h ≡ z → ⊥ = (unnamed_parts h used z k.1).0 in
      let free = chain_last c in
      let x = chain_clears c (named_more h used a u) off k.0 others in
      let q = clears b z (zs ++ others) in
      let c' = changes b q.done in
      let loose : stand c' f a h ≡ Loose = still_loose (stand b f a) (stand c' f a) h z last x.shifted.stands i k.0 free apart in
      let clear : stand c' f a z ≡ Free = now_free (stand b f a) (stand c' f a) h z last x.shifted.stands k.0 free in
      rw (clears_held b h z (zs ++ others) (loose_held b f a h (loose_is b f a h i)))
      (record {
        left_over = x.left_over;
        shifted =
            rw (changes_then q.done (stack_to c' h z) b)
            (two_shifts h z last i k.0 free apart x.shifted
            (shifted x.shifted.pushes.since most f a h z (loose_is c' f a h loose) n x.shifted.empty (free_is c' f a z clear).bear));
      })
