-- The group leaves, along a vacant route or into the box: the lines on units hold on. However it leaves, fewer owe then.
-- Assumes nothing.
use Prim.Native.Nat.{ℕ, ◌+◌, ◌≤◌, ◌<◌}
use mathlib.Core.Path.{◌≡◌, refl, sym, ap, ◌∙◌}
use mathlib.Core.Bool.{Bool, true, false}
use mathlib.Core.List.{[], map}
use native.Mathlib.Omega.{arith}
use lib.Dec.{eqb}
use lib.ListN.{get_or}
use Rattle.position.specs.Kind.{supply_kind}
use Rattle.position.specs.Board.{Board, force_of, nowhere}
use Rattle.position.specs.Ground.{standable}
use Rattle.position.specs.Crowd.{holders, owes_at, owing_hexes}
use Rattle.position.specs.Tally.{tally}
use Rattle.position.specs.Change.Change.{destroyed}
use Rattle.position.specs.Effect.{changes}
use Rattle.position.specs.Role as Role
use Rattle.position.proofs.Crowds.{holders_is}
use Rattle.position.proofs.Tallies.{but, but_other, either, equals, equals_is, equals_yes, not_both, same_or, tally_but_hit, tally_le, tally_pos}
use Rattle.acceptance.specs.Accepted.{Lawful}
use Rattle.acceptance.proofs.Owings.{owes, owes_hex, owes_role, owing_less}
use Rattle.acceptance.proofs.Since.{Since}
use Rattle.field.specs.Scene.{scene}
use Rattle.field.specs.Zone.{vacant}
use Rattle.field.specs.Listed.{sieve}
use Rattle.field.proofs.Lists.{named_nil, sieve_at, sieve_long}
use Rattle.field.proofs.Named.{sieve_each, sieve_names}
use Rattle.shoves.specs.Group.{group, group_force}
use Rattle.shoves.proofs.KeepEnds.{Left, all_doomed}
use Rattle.shoves.proofs.KeepMove.{Going, Goes, all_gone}
use Rattle.shoves.proofs.KeepStep.{OwnGroup}
use Rattle.retreat.specs.Retreat.{goes_off, leaves}
use Rattle.retreat.proofs.Leaving.{gather_falls, gather_leaves}

-- a unit owes in hex h
abbrev pub Owes : Board → ℕ → ℕ → Type 0
Owes b h u = (u < b.units.count) × (owes_at b h u ≡ true)

-- a hex where units owe is one that units stand on
pub start_stands : {b : Board} → Lawful b → (h u : ℕ) → Owes b h u → standable b h ≡ true
start_stands {b} l h u m =
    let there = l.units.each u m.0 in
    let mapped = (there.duty.held (λ z. omega (arith, owes_role b u h m.1))).mapped in
    ap (standable b) (sym (owes_hex b u h m.1)) ∙ (there.stand.mapped mapped).stands

-- "Its role 1 units go together": all that owe in a hex are of the group's force
pub group_own : {b : Board} → Lawful b → (h : ℕ) → OwnGroup b (group_force b h) h
unfolding group_force group owes_at
group_own {b} y h u l o =
    let t = owes_at b h in
    let n = b.units.count in
    let w = get_or (sieve t n) 0 0 in
    let k = sieve_at t n 0 (omega (arith, sieve_long t n, tally_pos t n u l o)) in
    let i = owes_role b u h o in
    let j = owes_role b w h k.passes in
    same_or (force_of b u) (force_of b w) (λ e. e)
    (λ e. absurd (((y.units.pairs u l w k.below).two e).roles (λ z. omega (arith, i)) (j ∙ sym i)))

module _ {o b : Board} (s : Since o b) (most : o.map.hexes ≤ nowhere) (h : ℕ) where
  -- the group is destroyed
  pub doomed_left : Left o b h (changes b (map destroyed (group b h)))
  doomed_left = rw (sym (gather_falls (group b h))) (all_doomed most h s)

  -- the group goes to a hex that was vacant; board d knows which of them are supply units
  module _
      (d : Board)
      (x : ℕ)
      (real : h ≡ nowhere → ⊥)
      (stands : standable b x ≡ true)
      (v : vacant (scene b) x ≡ true) where
    abbrev supply : ℕ → Bool
    supply u = eqb (d.units.counter.kind u) supply_kind

    goes : Goes x supply true (leaves d x)
    unfolding leaves
    goes = record { is = λ u. refl }

    going : Going o b x (owes_at b h) supply true [] (changes b (goes_off d x (group b h)))
    unfolding group
    going =
        let t = owes_at b h in
        rw (sym (gather_leaves d x (group b h)))
        (all_gone s most h x t supply true (λ w l e. owes_hex b w h e) real stands v (leaves d x) goes (group b h)
        (sieve_each t b.units.count)
        (sieve_names t b.units.count))

    pub off_left : Left o b h (changes b (goes_off d x (group b h)))
    off_left =
        record {
          since = going.since;
          fixed = going.fixed;
          desk = going.desk;
          gone =
              λ w l e.
              either (supply w) (λ k. (going.lost w l e k (named_nil w)).1) (λ k. (going.went w l e k (named_nil w)).1);
          roles = λ w l e. (going.kept w e).role;
          still = λ w l e _. (going.kept w e).hex;
        }

-- when the group is gone fewer units owe, and a hex less
module _ {o b c : Board} {h : ℕ} (x : Left o b h c) (u : ℕ) (m : Owes b h u) where
  pub left_holders : holders c Role.owes < holders b Role.owes
  left_holders =
      let t = equals b.units.state.role 1 in
      let s = equals c.units.state.role 1 in
      let n = b.units.count in
      let k = tally_but_hit t u n m.0 (equals_yes b.units.state.role 1 u (owes_role b u h m.1)) in
      let i =
      tally_le s (but t u) n
      (λ w l e.
      let r = equals_is c.units.state.role 1 w e in
      either (owes_at b h w)
      (λ q. absurd (omega (arith, x.gone w l q)))
      (λ q.
      but_other t u w (λ z. not_both (owes_at b h u) m.1 (ap (owes_at b h) (sym z) ∙ q))
      ∙ equals_yes b.units.state.role 1 w (sym (x.roles w l q) ∙ r)))
      in
      omega (arith, holders_is b 1, holders_is c 1, ap (tally s) x.fixed.count)

  not_owes : (w : ℕ) → (b.units.state.hex w ≡ h → ⊥) → owes_at b h w ≡ false
  not_owes w f = either (owes_at b h w) (λ q. absurd (f (owes_hex b w h q))) (λ q. q)

  pub left_owing : owing_hexes c + 1 ≤ owing_hexes b
  left_owing =
      owing_less b c h x.fixed.count
      (λ w n e f.
      let q = not_owes w f in
      (x.roles w n q ∙ e, x.still w n q e))
      (λ w n e.
      either (owes_at b h w)
      (λ q. absurd (omega (arith, x.gone w n q)))
      (λ q.
      let r : b.units.state.role w ≡ Role.owes = sym (x.roles w n q) ∙ e in
      (r, x.still w n q r, λ z. not_both (owes_at b h w) (owes b w h r z) q)))
      u
      m.0
      (owes_role b u h m.1)
      (owes_hex b u h m.1)
