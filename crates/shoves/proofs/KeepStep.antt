-- The group takes a step into a vacant hex: the lines on units hold on, and every hex is to it what it was.
-- Assumes nothing.
use Prim.Native.Nat.{ℕ, ◌≤◌, ◌<◌}
use mathlib.Core.Path.{◌≡◌, refl, sym, ap, fun_ext, ◌∙◌}
use mathlib.Core.Bool.{Bool, true, false}
use mathlib.Core.List.{[]}
use native.Mathlib.Omega.{arith}
use lib.Dec.{eqb}
use Rattle.position.specs.Kind.{supply_kind}
use Rattle.position.specs.Board.{Board, force_of, nowhere}
use Rattle.position.specs.Crowd.{owes_at}
use Rattle.position.specs.Effect.{changes}
use Rattle.position.specs.Role as Role
use Rattle.position.proofs.Tallies.{either, not_both}
use Rattle.acceptance.proofs.Carries.{Fixed, force_by}
use Rattle.acceptance.proofs.Fates.{Same}
use Rattle.acceptance.proofs.Owings.{owes, owes_hex, owes_role}
use Rattle.acceptance.proofs.Since.{Since}
use Rattle.field.specs.Scene.{scene}
use Rattle.field.specs.Zone.{stands_on, vacant}
use Rattle.field.proofs.Lists.{named_nil}
use Rattle.field.proofs.Named.{sieve_each, sieve_names}
use Rattle.routes.specs.Bears.{bears}
use Rattle.chains.specs.Stand.{apart, stand}
use Rattle.shoves.specs.Group.{group}
use Rattle.shoves.specs.Shoves.{goes_to, group_to}
use Rattle.shoves.proofs.KeepZone.{bears_same}
use Rattle.shoves.proofs.KeepMove.{Going, Goes, all_gone, vacant_none}
use Rattle.shoves.proofs.KeepChain.{bears_stands, real_hex}
use Rattle.shoves.proofs.Standing.{apart_else, apart_off, apart_owes, stand_same, stand_shut}

-- all that owe in hex a are of force f
abbrev pub OwnGroup : Board → ℕ → ℕ → Type 0
OwnGroup b f a = (w : ℕ) → w < b.units.count → owes_at b a w ≡ true → force_of b w ≡ f

-- board c, once the group of hex a stands in hex x: supply units among it are destroyed, no other unit has changed
pub record Stepped (o b : Board) (f a x : ℕ) (c : Board) : Type 0 where
  pub since : Since o c
  pub fixed : Fixed b c
  pub desk : c.desk ≡ b.desk
  pub kept : (w : ℕ) → owes_at b a w ≡ false → Same b.units c.units w
  pub left : (w : ℕ) → w < b.units.count → owes_at b a w ≡ false → owes_at c x w ≡ false
  pub gone : (w : ℕ) → w < b.units.count → owes_at b a w ≡ true → owes_at c x w ≡ false → c.units.state.role w ≡ Role.none
  pub own : OwnGroup c f x
  pub stands : stand c f x ≡ stand b f a

stands_by : (b c : Board) (h w : ℕ) → c.units.state.hex w ≡ b.units.state.hex w → stands_on (scene c) h w ≡ stands_on (scene b) h w
unfolding stands_on
stands_by b c h w e = ap (λ (x : ℕ). eqb x h) e

module _
    {o b : Board}
    (s : Since o b)
    (most : o.map.hexes ≤ nowhere)
    (f a x : ℕ)
    (real : a ≡ nowhere → ⊥)
    (mine : OwnGroup b f a)
    (v : vacant (scene b) x ≡ true)
    (q : bears b f x ≡ true) where
  abbrev moved : Board
  moved = changes b (group_to b a x)

  abbrev supply : ℕ → Bool
  supply u = eqb (b.units.counter.kind u) supply_kind

  goes : Goes x supply false (goes_to b x)
  unfolding goes_to
  goes = record { is = λ u. refl }

  going : Going o b x (owes_at b a) supply false [] moved
  unfolding group_to group
  going =
      let t = owes_at b a in
      all_gone s most a x t supply false (λ w l e. owes_hex b w a e) real (bears_stands b f x q) v (goes_to b x) goes (group b a)
      (sieve_each t b.units.count)
      (sieve_names t b.units.count)

  -- a unit of the group is destroyed or owes in hex x now
  lost :
      (w : ℕ) → w < b.units.count → owes_at b a w ≡ true → supply w ≡ true
      → (moved.units.state.hex w ≡ nowhere) × (moved.units.state.role w ≡ Role.none)
  lost w l e k = going.lost w l e k (named_nil w)

  pub went : (w : ℕ) → w < b.units.count → owes_at b a w ≡ true → supply w ≡ false → owes_at moved x w ≡ true
  went w l e k =
      let y = going.went w l e k (named_nil w) in
      owes moved w x (y.1 ∙ owes_role b w a e) y.0

  -- and any other does not
  stays : (w : ℕ) → w < b.units.count → owes_at b a w ≡ false → owes_at moved x w ≡ false
  stays w l e =
      either (owes_at moved x w)
      (λ y. absurd (vacant_none b x w v l (sym (going.kept w e).hex ∙ owes_hex moved w x y)))
      (λ y. y)

  hexes : (w : ℕ) → w < b.units.count → (force_of b w ≡ f → ⊥) → moved.units.state.hex w ≡ b.units.state.hex w
  hexes w l n = either (owes_at b a w) (λ e. absurd (n (mine w l e))) (λ e. (going.kept w e).hex)

  bear : (y : ℕ) → bears moved f y ≡ bears b f y
  bear = bears_same f going.fixed hexes

  apart_at : (y w : ℕ) → w < b.units.count → (y ≡ nowhere → ⊥) → apart moved x y w ≡ apart b a y w
  apart_at y w l n =
      either (owes_at b a w)
      (λ e.
      either (supply w)
      (λ k. apart_off moved x y w (λ z. n (sym z ∙ (lost w l e k).0)))
      (λ k. apart_owes moved x y w (went w l e k))
      ∙ sym (apart_owes b a y w e))
      (λ e.
      apart_else moved x y w (stays w l e)
      ∙ stands_by b moved y w (going.kept w e).hex
      ∙ sym (apart_else b a y w e))

  stood : (y : ℕ) → stand moved f x y ≡ stand b f a y
  stood y =
      either (bears b f y)
      (λ e.
      stand_same f a x y going.fixed (bear y) (λ w l. apart_at y w l (real_hex s most f a y (bears_stands b f y e)))
      (λ w l i.
      either (owes_at b a w)
      (λ z. not_both (apart b a y w) i (apart_owes b a y w z))
      (λ z. (going.kept w z).role)))
      (λ e. stand_shut moved f x y (bear y ∙ e) ∙ sym (stand_shut b f a y e))

  pub stepped : Stepped o b f a x moved
  stepped =
      record {
        since = going.since;
        fixed = going.fixed;
        desk = going.desk;
        kept = going.kept;
        left = stays;
        gone =
            λ w l e i.
            either (supply w) (λ k. (lost w l e k).1) (λ k. not_both (owes_at moved x w) (went w l e k) i);
        own =
            λ w l e.
            let k : w < b.units.count = omega (arith, going.fixed.count) in
            either (owes_at b a w)
            (λ i. force_by going.fixed w ∙ mine w k i)
            (λ i. not_both (owes_at moved x w) e (stays w k i));
        stands = fun_ext stood;
      }
