-- Units of one hex go to a vacant one, or are destroyed: the lines on units hold on, and no other unit changes.
-- Assumes nothing.
use Prim.Native.Nat.{ℕ, ◌≤◌, ◌<◌}
use mathlib.Core.Path.{◌≡◌, refl, sym, ap, subst, ◌∙◌}
use mathlib.Core.Bool.{Bool, true, false, cond}
use mathlib.Core.List.{List, [], ◌∷◌}
use native.Mathlib.Omega.{arith}
use lib.Dec.{ltb}
use borrow.Author.Tests.{not-true}
use Rattle.position.specs.Board.{Board, force_of, nowhere}
use Rattle.position.specs.Ground.{standable}
use Rattle.position.specs.Crowd.{crowd, others}
use Rattle.position.specs.Tally.{any}
use Rattle.position.specs.Change.{Change}
use Rattle.position.specs.Change.Change.{assigned, destroyed, placed}
use Rattle.position.specs.Effect.{change, changes}
use Rattle.position.specs.Role as Role
use Rattle.position.proofs.Crowds.{crowd_with, others_is}
use Rattle.position.proofs.Tallies.{any_false, but, but_other, but_self, either, equals, equals_is, equals_yes, not_both, same_or, tally_le}
use Rattle.acceptance.specs.Accepted.{MappedOk}
use Rattle.acceptance.proofs.Carries.{Fixed, changes_then, fixed_change, force_by, standable_by}
use Rattle.acceptance.proofs.Fates.{Same, assigned_else, assigned_none, destroyed_else, destroyed_here, same_trans}
use Rattle.acceptance.proofs.Lawfuls.{Room, placed_hex, standable_on}
use Rattle.acceptance.proofs.Since.{Since, placed_desk, since_destroyed, since_freed, since_placed}
use Rattle.acceptance.proofs.Stills.{fixed_refl, fixed_trans}
use Rattle.ruling.specs.Secret.{Each}
use Rattle.field.specs.Listed.{named}
use Rattle.field.specs.Scene.{scene}
use Rattle.field.specs.Zone.{stands_on, vacant}
use Rattle.field.proofs.Named.{named_past}
use Rattle.field.proofs.Zones.{stands_here}
use Rattle.shoves.specs.Group.{gather}
use Rattle.shoves.proofs.Sweeps.{placed_else}

-- nobody stands on a vacant hex
pub vacant_none : (b : Board) (h w : ℕ) → vacant (scene b) h ≡ true → w < b.units.count → b.units.state.hex w ≡ h → ⊥
unfolding vacant
vacant_none b h w e l z =
    let t = stands_on (scene b) h in
    not_both (t w) (stands_here (scene b) h w z) (any_false t b.units.count w (not-true (any t b.units.count) e) l)

-- placing a unit leaves every role
module _ (c : Board) (u x : ℕ) where
  placed_role : (w : ℕ) → (change c (placed u x)).units.state.role w ≡ c.units.state.role w
  unfolding change
  placed_role w = either (ltb x c.map.hexes) (λ e. simp e) (λ e. simp e)

-- no role and no loss touches the desk
module _ (c : Board) (u : ℕ) where
  pub freed_desk : (change c (assigned u Role.none)).desk ≡ c.desk
  unfolding change
  freed_desk = refl

  pub destroyed_desk : (change c (destroyed u)).desk ≡ c.desk
  unfolding change
  destroyed_desk = refl

-- the role of a unit that has gone: none, if it is freed
abbrev pub role_then : Bool → ℕ → ℕ
role_then freed r = cond freed 0 r

-- those that pass the test t go to hex x, but those that pass k are destroyed; the units us have still to go
pub record Going (a b : Board) (x : ℕ) (t k : ℕ → Bool) (freed : Bool) (us : List ℕ) (c : Board) : Type 0 where
  pub since : Since a c
  pub fixed : Fixed b c
  pub desk : c.desk ≡ b.desk
  pub kept : (w : ℕ) → t w ≡ false → Same b.units c.units w
  pub held : (w : ℕ) → w < b.units.count → t w ≡ true → k w ≡ false → freed ≡ false → c.units.state.role w ≡ b.units.state.role w
  pub went :
      (w : ℕ) → w < b.units.count → t w ≡ true → k w ≡ false → named us w ≡ false
      → (c.units.state.hex w ≡ x) × (c.units.state.role w ≡ role_then freed (b.units.state.role w))
  pub lost :
      (w : ℕ) → w < b.units.count → t w ≡ true → k w ≡ true → named us w ≡ false
      → (c.units.state.hex w ≡ nowhere) × (c.units.state.role w ≡ Role.none)

-- how each of them goes
pub record Goes (x : ℕ) (k : ℕ → Bool) (freed : Bool) (g : ℕ → List Change) : Type 0 where
  pub is : (u : ℕ) → g u ≡ cond (k u) (destroyed u ∷ []) (placed u x ∷ cond freed (assigned u Role.none ∷ []) [])

-- unit u has gone from board c to hex x of board e
record Went (a b : Board) (x : ℕ) (freed : Bool) (u : ℕ) (c e : Board) : Type 0 where
  pub since : Since a e
  pub fixed : Fixed c e
  pub desk : e.desk ≡ c.desk
  pub else : (w : ℕ) → (w ≡ u → ⊥) → Same c.units e.units w
  pub hex : e.units.state.hex u ≡ x
  pub role : e.units.state.role u ≡ role_then freed (c.units.state.role u)

module _
    {a b : Board}
    (s : Since a b)
    (most : a.map.hexes ≤ nowhere)
    (h x : ℕ)
    (t k : ℕ → Bool)
    (freed : Bool)
    (from : (w : ℕ) → w < b.units.count → t w ≡ true → b.units.state.hex w ≡ h)
    (real : h ≡ nowhere → ⊥)
    (stands : standable b x ≡ true)
    (v : vacant (scene b) x ≡ true) where
  -- a unit of the hex has at most two beside it, all of its force
  module _ (u : ℕ) (m : u < b.units.count) (e : t u ≡ true) where
    there : MappedOk b u
    there = (s.units.each u m).stand.mapped (λ z. real (sym (from u m e) ∙ z))

    few : others b u h ≤ 2
    few =
        let z = from u m e in
        omega (arith, there.room, ap (crowd b) z, crowd_with b u h m z)

    own : (w : ℕ) → w < b.units.count → b.units.state.hex w ≡ h → force_of b w ≡ force_of b u
    own w n z =
        same_or (force_of b w) (force_of b u) (λ q. q)
        (λ d.
        absurd
        (((s.units.pairs u m w n).two (λ q. d (sym q))).apart (λ q. real (sym (from u m e) ∙ q)) (z ∙ sym (from u m e))))

  arrived : {us : List ℕ} {c : Board} → Going a b x t k freed us c → (w : ℕ) → w < b.units.count → c.units.state.hex w ≡ x → b.units.state.hex w ≡ h
  arrived o w n z =
      either (t w) (λ e. from w n e) (λ e. absurd (vacant_none b x w v n (sym (o.kept w e).hex ∙ z)))

  fewer : {us : List ℕ} {c : Board} → Going a b x t k freed us c → (u : ℕ) → others c u x ≤ others b u h
  fewer {c = c} o u =
      let y = equals c.units.state.hex x in
      let q = equals b.units.state.hex h in
      rw (others_is c u x, others_is b u h, o.fixed.count)
      (tally_le (but y u) (but q u) b.units.count
      (λ w n e.
      same_or w u
      (λ z. not_both (but y u w) e (but_self y u w z))
      (λ z.
      but_other q u w z
      ∙ equals_yes b.units.state.hex h w (arrived o w n (equals_is c.units.state.hex x w (sym (but_other y u w z) ∙ e))))))

  room : {us : List ℕ} {c : Board} → Going a b x t k freed us c → (u : ℕ) → u < b.units.count → t u ≡ true → Room c u x
  room o u m e =
      let f = o.fixed in
      record {
        hex = λ z. omega (arith, standable_on b x stands, most, ap (λ (y : _). y.hexes) s.fixed.map);
        stands = standable_by f x ∙ stands;
        few = omega (arith, fewer o u, few u m e);
        own =
            λ w n _ z.
            let i : w < b.units.count = omega (arith, f.count) in
            force_by f w ∙ own u m e w i (arrived o w i z) ∙ sym (force_by f u);
      }

  module _ {us : List ℕ} {c : Board} (u : ℕ) (m : u < b.units.count) (e : t u ≡ true) (o : Going a b x t k freed (u ∷ us) c) where
    on : u < c.units.count
    on = omega (arith, o.fixed.count)

    placed_went : Went a b x false u c (change c (placed u x))
    placed_went =
        record {
          since = since_placed most o.since u x on (room o u m e);
          fixed = fixed_change c (placed u x);
          desk = placed_desk c u x;
          else = placed_else c u x;
          hex = placed_hex u x on (room o u m e);
          role = placed_role c u x u;
        }

    freed_went : Went a b x true u c (change (change c (placed u x)) (assigned u Role.none))
    freed_went =
        let d = change c (placed u x) in
        let y = placed_went in
        let z = assigned_none d u (omega (arith, on, y.fixed.count)) in
        record {
          since = since_freed most y.since u;
          fixed = fixed_trans y.fixed (fixed_change d (assigned u Role.none));
          desk = freed_desk d u ∙ y.desk;
          else = λ w n. same_trans (y.else w n) (assigned_else d u 0 w n);
          hex = z.hex ∙ y.hex;
          role = z.role;
        }

    going_went : {d : Board} → k u ≡ false → Went a b x freed u c d → Going a b x t k freed us d
    going_went {d} f y =
        record {
          since = y.since;
          fixed = fixed_trans o.fixed y.fixed;
          desk = y.desk ∙ o.desk;
          kept = λ w q. same_trans (o.kept w q) (y.else w (λ z. not_both (t u) e (ap t (sym z) ∙ q)));
          held =
              λ w l q i j.
              same_or w u
              (λ z.
              ap d.units.state.role z ∙ y.role ∙ ap (λ (r : Bool). role_then r (c.units.state.role u)) j
              ∙ o.held u m e f j
              ∙ ap b.units.state.role (sym z))
              (λ z. (y.else w z).role ∙ o.held w l q i j);
          went =
              λ w l q i j.
              same_or w u
              (λ z. (ap d.units.state.hex z ∙ y.hex, ap d.units.state.role z ∙ y.role ∙ then_same ∙ ap (λ (r : ℕ). role_then freed (b.units.state.role r)) (sym z)))
              (λ z.
              let r = o.went w l q i (named_past u us w (λ r. z (sym r)) ∙ j) in
              ((y.else w z).hex ∙ r.0, (y.else w z).role ∙ r.1));
          lost =
              λ w l q i j.
              same_or w u
              (λ z. not_both (k u) (ap k (sym z) ∙ i) f)
              (λ z.
              let r = o.lost w l q i (named_past u us w (λ r. z (sym r)) ∙ j) in
              ((y.else w z).hex ∙ r.0, (y.else w z).role ∙ r.1));
        }
      where
        then_same : role_then freed (c.units.state.role u) ≡ role_then freed (b.units.state.role u)
        then_same = either freed (λ z. simp z) (λ z. simp z (o.held u m e f z))

  going_destroyed :
      {us : List ℕ} {c : Board} (u : ℕ) → u < b.units.count → t u ≡ true → k u ≡ true → Going a b x t k freed (u ∷ us) c
      → Going a b x t k freed us (change c (destroyed u))
  going_destroyed {us} {c} u m e f o =
      let n : u < c.units.count = omega (arith, o.fixed.count) in
      let off : (w : ℕ) → (w ≡ u → ⊥) → Same c.units (change c (destroyed u)).units w = destroyed_else c u in
      let y = destroyed_here c u n in
      record {
        since = since_destroyed most o.since u;
        fixed = fixed_trans o.fixed (fixed_change c (destroyed u));
        desk = destroyed_desk c u ∙ o.desk;
        kept = λ w q. same_trans (o.kept w q) (off w (λ z. not_both (t u) e (ap t (sym z) ∙ q)));
        held = λ w l q i j. (off w (λ r. not_both (k u) f (ap k (sym r) ∙ i))).role ∙ o.held w l q i j;
        went =
            λ w l q i j.
            let z : w ≡ u → ⊥ = λ r. not_both (k u) f (ap k (sym r) ∙ i) in
            let r = o.went w l q i (named_past u us w (λ r. z (sym r)) ∙ j) in
            ((off w z).hex ∙ r.0, (off w z).role ∙ r.1);
        lost =
            λ w l q i j.
            same_or w u
            (λ z. (ap (change c (destroyed u)).units.state.hex z ∙ (y.lost refl).hex, ap (change c (destroyed u)).units.state.role z ∙ y.role))
            (λ z. let r = o.lost w l q i (named_past u us w (λ r. z (sym r)) ∙ j) in ((off w z).hex ∙ r.0, (off w z).role ∙ r.1));
      }

  going_one :
      {us : List ℕ} {c : Board} (g : ℕ → List Change) → Goes x k freed g → (u : ℕ) → u < b.units.count → t u ≡ true
      → Going a b x t k freed (u ∷ us) c → Going a b x t k freed us (changes c (g u))
  unfolding changes
  going_one {us} {c} g y u m e o =
      rw (y.is u)
      (either (k u)
      (λ f. simp f (going_destroyed u m e f o))
      (λ f.
      simp f
      (either freed
      (λ z. subst (Going a b x t k freed us) (then_freed z) (going_went u m e o f (rw z (freed_went u m e o))))
      (λ z. subst (Going a b x t k freed us) (then_not z) (going_went u m e o f (rw z (placed_went u m e o)))))))
    where
      then_freed : freed ≡ true → change (change c (placed u x)) (assigned u Role.none) ≡ changes (change c (placed u x)) (cond freed (assigned u Role.none ∷ []) [])
      then_freed z = simp z

      then_not : freed ≡ false → change c (placed u x) ≡ changes (change c (placed u x)) (cond freed (assigned u Role.none ∷ []) [])
      then_not z = simp z

  -- one after another
  all_go :
      (g : ℕ → List Change) → Goes x k freed g → (us : List ℕ) {c : Board} → Each (λ u. (u < b.units.count) × (t u ≡ true)) us
      → Going a b x t k freed us c → Going a b x t k freed [] (changes c (gather g us))
  unfolding gather changes
  all_go g y [] m o = o
  all_go g y (u ∷ us) {c} m o =
      rw (changes_then (g u) (gather g us) c) (all_go g y us m.1 (going_one g y u m.0.0 m.0.1 o))

  -- all that pass are in the list
  pub all_gone :
      (g : ℕ → List Change) → Goes x k freed g → (us : List ℕ) → Each (λ u. (u < b.units.count) × (t u ≡ true)) us
      → ((w : ℕ) → w < b.units.count → t w ≡ true → named us w ≡ true) → Going a b x t k freed [] (changes b (gather g us))
  all_gone g y us m all =
      all_go g y us m
      (record {
        since = s;
        fixed = fixed_refl b;
        desk = refl;
        kept = λ w q. record { hex = refl; marks = refl; role = refl };
        held = λ w l q i j. refl;
        went = λ w l q i j. not_both (named us w) (all w l q) j;
        lost = λ w l q i j. not_both (named us w) (all w l q) j;
      })
