-- What becomes of units: destroyed, given a role, or without it. It is told of each unit, and the lines on units follow from what is told of all.
-- Assumes nothing.
use Prim.Native.Nat.{ℕ, ◌≤◌, ◌<◌}
use mathlib.Core.Path.{◌≡◌, refl, sym, ap, ◌∙◌}
use mathlib.Core.Bool.{true}
use native.Mathlib.Omega.{arith}
use Rattle.position.specs.Bits.{has, tried, faced}
use Rattle.position.specs.Board.{Board, Units, nowhere}
use Rattle.position.specs.Ground.{standable}
use Rattle.position.specs.Crowd.{crowd}
use Rattle.position.specs.Change.Change.{destroyed, assigned}
use Rattle.position.specs.Effect.{change}
use Rattle.position.specs.Role as Role
use Rattle.position.proofs.Tallies.{same_or, equals, equals_yes, equals_is, tally_le}
use Rattle.position.proofs.Crowds.{crowd_is}
use Rattle.position.proofs.Effects.{upd_there, upd_else, faced_face}
use Rattle.acceptance.specs.Accepted.{UnitsOk}
use Rattle.acceptance.specs.Asked.{AloneOk, StacksOk, OneForce, RolesOk}
use Rattle.acceptance.proofs.Carries.{Fixed, standable_by, force_by}
use Rattle.acceptance.proofs.Asking.{units_asked, alone_of, stacks_of, roles_of}

-- unit w is as it was
pub record Same (s t : Units) (w : ℕ) : Type 0 where
  pub hex : t.state.hex w ≡ s.state.hex w
  pub marks : t.state.marks w ≡ s.state.marks w
  pub role : t.state.role w ≡ s.state.role w

-- unit w is in the box
pub record Boxed (t : Units) (w : ℕ) : Type 0 where
  pub hex : t.state.hex w ≡ nowhere
  pub marks : t.state.marks w ≤ tried

-- unit w has role f, where it is on the map as before; for 0 it is destroyed
pub record Fated (s t : Units) (f w : ℕ) : Type 0 where
  pub role : t.state.role w ≡ f
  pub face : has tried (t.state.marks w) ≡ has tried (s.state.marks w)
  pub lost : f ≡ 0 → Boxed t w
  pub stays : (f ≡ 0 → ⊥) → t.state.hex w ≡ s.state.hex w
  pub keeps : (f ≡ 0 → ⊥) → t.state.marks w ≡ s.state.marks w

-- unit w has no role now, and is otherwise as it was
pub record Freed (s t : Units) (w : ℕ) : Type 0 where
  pub hex : t.state.hex w ≡ s.state.hex w
  pub marks : t.state.marks w ≡ s.state.marks w
  pub role : t.state.role w ≡ Role.none

module _ {s t v : Units} {w : ℕ} where
  pub same_trans : Same s t w → Same t v w → Same s v w
  same_trans a b = record { hex = b.hex ∙ a.hex; marks = b.marks ∙ a.marks; role = b.role ∙ a.role }

  module _ {f : ℕ} where
    pub same_fated : Same s t w → Fated t v f w → Fated s v f w
    same_fated a b =
        record {
          role = b.role;
          face = b.face ∙ ap (has tried) a.marks;
          lost = b.lost;
          stays = λ n. b.stays n ∙ a.hex;
          keeps = λ n. b.keeps n ∙ a.marks;
        }

    pub fated_same : Fated s t f w → Same t v w → Fated s v f w
    fated_same a b =
        record {
          role = b.role ∙ a.role;
          face = ap (has tried) b.marks ∙ a.face;
          lost = λ e. record { hex = b.hex ∙ (a.lost e).hex; marks = rw b.marks (a.lost e).marks };
          stays = λ n. b.hex ∙ a.stays n;
          keeps = λ n. b.marks ∙ a.keeps n;
        }

    pub fated_twice : Fated s t f w → Fated t v f w → Fated s v f w
    fated_twice a b =
        record {
          role = b.role;
          face = b.face ∙ a.face;
          lost = b.lost;
          stays = λ n. b.stays n ∙ a.stays n;
          keeps = λ n. b.keeps n ∙ a.keeps n;
        }

-- a unit destroyed, and one given a role
faced_none : (m : ℕ) → faced m 0 ≤ tried
unfolding faced
faced_none m = omega arith

module _ (b : Board) (u : ℕ) where
  pub destroyed_else : (w : ℕ) → (w ≡ u → ⊥) → Same b.units (change b (destroyed u)).units w
  unfolding change
  destroyed_else w n =
      let at : (f : ℕ → ℕ) (x : ℕ) → _ = λ f x. upd_else b.units.count f u x w (λ _ e. n e) in
      record { hex = at b.units.state.hex nowhere; marks = at b.units.state.marks (faced (b.units.state.marks u) 0); role = at b.units.state.role 0 }

  pub destroyed_here : u < b.units.count → Fated b.units (change b (destroyed u)).units Role.none u
  unfolding change
  destroyed_here l =
      let m = upd_there b.units.count b.units.state.marks u (faced (b.units.state.marks u) 0) l in
      record {
        role = upd_there b.units.count b.units.state.role u Role.none l;
        face = ap (has tried) m ∙ faced_face (b.units.state.marks u) 0;
        lost =
            λ _.
            record {
              hex = upd_there b.units.count b.units.state.hex u nowhere l;
              marks = rw m (faced_none (b.units.state.marks u));
            };
        stays = λ n. absurd (n refl);
        keeps = λ n. absurd (n refl);
      }

  module _ (r : ℕ) where
    pub assigned_else : (w : ℕ) → (w ≡ u → ⊥) → Same b.units (change b (assigned u r)).units w
    unfolding change
    assigned_else w n = record { hex = refl; marks = refl; role = upd_else b.units.count b.units.state.role u r w (λ _ e. n e) }

    pub assigned_here : u < b.units.count → (r ≡ 0 → ⊥) → Fated b.units (change b (assigned u r)).units r u
    unfolding change
    assigned_here l n =
        record {
          role = upd_there b.units.count b.units.state.role u r l;
          face = refl;
          lost = λ e. absurd (n e);
          stays = λ _. refl;
          keeps = λ _. refl;
        }

  pub assigned_none : u < b.units.count → Freed b.units (change b (assigned u Role.none)).units u
  unfolding change
  assigned_none l = record { hex = refl; marks = refl; role = upd_there b.units.count b.units.state.role u Role.none l }

-- the lines on one unit, on stacks and on roles
module _ {b c : Board} (f : Fixed b c) where
  pub alone_same : (w : ℕ) → Same b.units c.units w → AloneOk b w → AloneOk c w
  alone_same w e o =
      record {
        counter =
            record {
              belongs = rw f.counter o.counter.belongs;
              allows = rw f.counter o.counter.allows;
              marks = rw e.marks o.counter.marks;
              always = rw (f.counter, e.marks) o.counter.always;
            };
        duty =
            record {
              role = rw e.role o.duty.role;
              held =
                  λ n.
                  let d = o.duty.held (λ z. n (e.role ∙ z)) in
                  record { tried = rw e.marks d.tried; mapped = λ z. d.mapped (sym e.hex ∙ z) };
            };
        ground =
            record {
              destroyed =
                  λ n.
                  let d = o.ground.destroyed (sym e.hex ∙ n) in
                  record { role = e.role ∙ d.role; marks = rw e.marks d.marks };
              stands =
                  λ n. ap (standable c) e.hex ∙ standable_by f (b.units.state.hex w) ∙ o.ground.stands (λ z. n (e.hex ∙ z));
            };
      }

  -- a unit that is tried and on the map bears a role, and any unit bears loss
  pub alone_fated :
      (r w : ℕ) → Fated b.units c.units r w → r ≤ 2
      → ((r ≡ 0 → ⊥) → has tried (b.units.state.marks w) ≡ true) → ((r ≡ 0 → ⊥) → b.units.state.hex w ≡ nowhere → ⊥)
      → AloneOk b w → AloneOk c w
  alone_fated r w e l t m o =
      record {
        counter =
            record {
              belongs = rw f.counter o.counter.belongs;
              allows = rw f.counter o.counter.allows;
              marks = same_or r 0 (λ z. omega (arith, (e.lost z).marks)) (λ n. rw (e.keeps n) o.counter.marks);
              always = rw f.counter (λ k. e.face ∙ o.counter.always k);
            };
        duty =
            record {
              role = rw e.role l;
              held =
                  λ n.
                  let d : r ≡ 0 → ⊥ = λ z. n (e.role ∙ z) in
                  record { tried = e.face ∙ t d; mapped = λ z. m d (sym (e.stays d) ∙ z) };
            };
        ground =
            record {
              destroyed =
                  λ n.
                  same_or r 0
                  (λ z. record { role = e.role ∙ z; marks = (e.lost z).marks })
                  (λ z. absurd (m z (sym (e.stays z) ∙ n)));
              stands =
                  λ n.
                  same_or r 0
                  (λ z. absurd (n (e.lost z).hex))
                  (λ z. ap (standable c) (e.stays z) ∙ standable_by f (b.units.state.hex w) ∙ o.ground.stands (m z));
            };
      }

  -- a unit without its role
  pub alone_freed : (w : ℕ) → Freed b.units c.units w → AloneOk b w → AloneOk c w
  alone_freed w e o =
      record {
        counter =
            record {
              belongs = rw f.counter o.counter.belongs;
              allows = rw f.counter o.counter.allows;
              marks = rw e.marks o.counter.marks;
              always = rw (f.counter, e.marks) o.counter.always;
            };
        duty = record { role = omega (arith, e.role); held = λ n. absurd (n e.role) };
        ground =
            record {
              destroyed =
                  λ n. record { role = e.role; marks = rw e.marks (o.ground.destroyed (sym e.hex ∙ n)).marks };
              stands =
                  λ n. ap (standable c) e.hex ∙ standable_by f (b.units.state.hex w) ∙ o.ground.stands (λ z. n (e.hex ∙ z));
            };
      }

  -- every unit on the map stands where it stood
  module _
      (most : b.map.hexes ≤ nowhere)
      (at : (w : ℕ) → w < b.units.count → (c.units.state.hex w ≡ nowhere → ⊥) → c.units.state.hex w ≡ b.units.state.hex w) where
    crowd_less : (h : ℕ) → (h ≡ nowhere → ⊥) → crowd c h ≤ crowd b h
    crowd_less h n =
        rw (crowd_is c h, crowd_is b h, f.count)
        (tally_le (equals c.units.state.hex h) (equals b.units.state.hex h) b.units.count
        (λ w l e.
        let q = equals_is c.units.state.hex h w e in
        equals_yes b.units.state.hex h w (sym (at w l (λ z. n (sym q ∙ z))) ∙ q)))

    pub stacks_fewer : StacksOk b → StacksOk c
    stacks_fewer s u l low high =
        let h : c.units.state.hex u < b.map.hexes = rw f.map at high in
        let n : c.units.state.hex u ≡ nowhere → ⊥ = λ e. absurd (omega arith) in
        let m : u < b.units.count = omega (arith, f.count) in
        let q = at u m n in
        let k = s u m (omega arith) (rw q at h) in
        record {
          room = omega (arith, crowd_less (c.units.state.hex u) n, ap (crowd b) q, k.room);
          one =
              λ w g e.
              let i : w < b.units.count = omega (arith, f.count) in
              force_by f w ∙ k.one w i (sym (at w i (λ z. n (sym e ∙ z))) ∙ e ∙ q) ∙ sym (force_by f u);
        }

  -- who has a role had it before
  module _ (had : (w : ℕ) → w < b.units.count → (c.units.state.role w ≡ Role.none → ⊥) → c.units.state.role w ≡ b.units.state.role w) where
    role_before :
        (r w : ℕ) → w < c.units.count → (r ≡ 0 → ⊥) → c.units.state.role w ≡ r → (w < b.units.count) × (b.units.state.role w ≡ r)
    role_before r w l n e =
        let m : w < b.units.count = omega (arith, f.count) in
        (m, sym (had w m (λ z. n (sym e ∙ z))) ∙ e)

    one_force_fewer : (r : ℕ) → (r ≡ 0 → ⊥) → OneForce b r → OneForce c r
    one_force_fewer r n o u l w m p q =
        let x = role_before r u l n p in
        let y = role_before r w m n q in
        force_by f w ∙ o u x.0 w y.0 x.1 y.1 ∙ sym (force_by f u)

    pub roles_fewer : RolesOk b → RolesOk c
    roles_fewer o =
        record {
          owing = one_force_fewer 1 (λ e. omega arith) o.owing;
          advancing = one_force_fewer 2 (λ e. omega arith) o.advancing;
          apart =
              λ u l w m p q e.
              let x = role_before Role.owes u l (λ z. omega arith) p in
              let y = role_before Role.advances w m (λ z. omega arith) q in
              o.apart u x.0 w y.0 x.1 y.1 (sym (force_by f w) ∙ e ∙ force_by f u);
        }

  -- who may advance owed before, and none owes now
  pub roles_passed :
      ((w : ℕ) → w < b.units.count → (c.units.state.role w ≡ Role.none → ⊥) → (c.units.state.role w ≡ Role.advances) × (b.units.state.role w ≡ Role.owes))
      → RolesOk b → RolesOk c
  roles_passed had o =
      let below : (w : ℕ) → w < c.units.count → w < b.units.count = λ w l. omega (arith, f.count) in
      let two : (w : ℕ) → w < c.units.count → c.units.state.role w ≡ Role.owes → ⊥ =
      λ w l p. omega (arith, (had w (below w l) (λ z. omega arith)).0)
      in
      let one : (w : ℕ) → w < c.units.count → c.units.state.role w ≡ Role.advances → b.units.state.role w ≡ Role.owes =
      λ w l p. (had w (below w l) (λ z. omega arith)).1
      in
      record {
        owing = λ u l w m p q. absurd (two u l p);
        advancing =
            λ u l w m p q.
            force_by f w ∙ o.owing u (below u l) w (below w m) (one u l p) (one w m q) ∙ sym (force_by f u);
        apart = λ u l w m p q e. two u l p;
      }

-- unit w has lost nothing, its role, or everything
pub data Lesser (s t : Units) (w : ℕ) : Type 0 where
  same : Same s t w → Lesser s t w
  freed : Freed s t w → Lesser s t w
  gone : Fated s t Role.none w → Lesser s t w

lesser_hex : {s t : Units} {w : ℕ} → Lesser s t w → (t.state.hex w ≡ nowhere → ⊥) → t.state.hex w ≡ s.state.hex w
lesser_hex (same e) n = e.hex
lesser_hex (freed e) n = e.hex
lesser_hex (gone e) n = absurd (n (e.lost refl).hex)

lesser_role : {s t : Units} {w : ℕ} → Lesser s t w → (t.state.role w ≡ Role.none → ⊥) → t.state.role w ≡ s.state.role w
lesser_role (same e) n = e.role
lesser_role (freed e) n = absurd (n e.role)
lesser_role (gone e) n = absurd (n e.role)

lesser_alone : {b c : Board} → Fixed b c → (w : ℕ) → Lesser b.units c.units w → AloneOk b w → AloneOk c w
lesser_alone f w (same e) o = alone_same f w e o
lesser_alone f w (freed e) o = alone_freed f w e o
lesser_alone f w (gone e) o = alone_fated f 0 w e (omega arith) (λ n. absurd (n refl)) (λ n. absurd (n refl)) o

-- units that only lose keep the lines on units
pub units_fewer :
    {b c : Board} → Fixed b c → b.map.hexes ≤ nowhere → ((w : ℕ) → w < b.units.count → Lesser b.units c.units w)
    → UnitsOk b → UnitsOk c
units_fewer {b} {c} f most each o =
    units_asked
    (λ w l.
    let m : w < b.units.count = omega (arith, f.count) in
    lesser_alone f w (each w m) (alone_of o w m))
    (stacks_fewer f most (λ w l. lesser_hex (each w l)) (stacks_of o most))
    (roles_fewer f (λ w l. lesser_role (each w l)) (roles_of o))
