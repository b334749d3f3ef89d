-- The board after a battle is lawful, by what is told of each side's units and of the desk.
-- Assumes nothing.
use Prim.Native.Nat.{ℕ, ◌+◌, ◌≤◌, ◌<◌}
use mathlib.Core.Path.{◌≡◌, refl, sym, ap, ◌∙◌}
use mathlib.Core.Bool.{true, false}
use mathlib.Core.List.{List}
use native.Mathlib.Omega.{arith}
use lib.ListN.{length, get_or}
use Rattle.position.specs.Bits.{has, tried}
use Rattle.position.specs.Board.{Board, nowhere, force_of}
use Rattle.position.specs.Ground.{joined}
use Rattle.position.specs.Tally.{tally}
use Rattle.position.specs.Crowd.{crowd, holders, owing_hexes}
use Rattle.position.specs.Shape.{In}
use Rattle.position.specs.Role as Role
use Rattle.position.specs.Stage as Stage
use Rattle.position.proofs.Tallies.{same_or, either, tally_pos, tally_le, equals, equals_yes, equals_is}
use Rattle.position.proofs.Crowds.{crowd_is, holders_is}
use Rattle.acceptance.specs.Accepted.{UnitsOk, DuringOk, StageOk, RoutesOk, Lawful}
use Rattle.acceptance.specs.Asked.{AloneOk, StacksOk, OneForce, RolesOk}
use Rattle.acceptance.proofs.Carries.{Fixed, force_by, routes_by}
use Rattle.acceptance.proofs.Asking.{units_asked, alone_of, stacks_of}
use Rattle.acceptance.proofs.Since.{lawful_since}
use Rattle.acceptance.proofs.Owings.{owing_most, owing_some, holders_nought, holders_pos, holders_none}
use Rattle.acceptance.proofs.Stills.{fixed_trans, Still}
use Rattle.acceptance.proofs.Fates.{Same, Fated, alone_same, alone_fated, stacks_fewer}
use Rattle.ruling.specs.Secret.{Each}
use Rattle.position.specs.Ground.{bearing}
use Rattle.position.proofs.Bearings.{bearing_below}
use Rattle.field.specs.Listed.{named}
use Rattle.results.specs.declared.Upshot.{Upshot}
use Rattle.field.proofs.Lists.{named_at}
use Rattle.field.proofs.Named.{named_each, tally_named}
use Rattle.battle.proofs.Ring.{joined_other, joined_one}
use Rattle.results.proofs.Upshots.{Sensible}
use Rattle.clock.specs.Phase as Phase

-- an attacker as the questions leave it
pub record Attacker (b : Board) (target u : ℕ) : Type 0 where
  pub below : u < b.units.count
  pub mapped : b.units.state.hex u ≡ nowhere → ⊥
  pub force : force_of b u ≡ b.desk.clock.force
  pub beside : joined b.map (b.units.state.hex u) target ≡ true

-- an Enemy in the target hex
pub record Held (b : Board) (target : ℕ) : Type 0 where
  pub unit : ℕ
  pub below : unit < b.units.count
  pub here : b.units.state.hex unit ≡ target
  pub enemy : force_of b unit ≡ b.desk.clock.force → ⊥

-- what is known of a lawful board where an attack is let through
pub record Ready (b : Board) (target : ℕ) (units : List ℕ) : Type 0 where
  pub lawful : Lawful b
  pub most : b.map.hexes ≤ nowhere
  pub some : 1 ≤ length units
  pub many : length units ≤ 18
  pub aimed : target ≡ nowhere → ⊥
  pub quiet : b.desk.battle.stage ≡ Stage.quiet
  pub phase : b.desk.clock.phase ≡ Phase.combat
  pub attackers : Each (Attacker b target) units
  pub held : Held b target

module _ {b : Board} {target : ℕ} {units : List ℕ} (g : Ready b target units) where
  -- a unit of the list
  pub attacker_of : (w : ℕ) → named units w ≡ true → Attacker b target w
  attacker_of = named_each (Attacker b target) units g.attackers

  pub first_named : named units (get_or units 0 0) ≡ true
  first_named = named_at units 0 (get_or units 0 0) g.some refl

  -- it is not in the target hex
  pub attacker_off : (w : ℕ) → named units w ≡ true → b.units.state.hex w ≡ target → ⊥
  attacker_off w e = joined_other b.map target (b.units.state.hex w) (attacker_of w e).beside

  -- a stack is of one force
  pub defender_force : (w : ℕ) → w < b.units.count → b.units.state.hex w ≡ target → force_of b w ≡ force_of b g.held.unit
  defender_force w l e =
      let h = g.held in
      same_or (force_of b w) (force_of b h.unit) (λ z. z)
      (λ n.
      absurd
      (((g.lawful.units.pairs h.unit h.below w l).two (λ z. n (sym z))).apart (λ z. g.aimed (sym h.here ∙ z)) (e ∙ sym h.here)))

  -- at most three stand there, and some
  pub crowd_there : crowd b target ≤ 3
  crowd_there =
      let h = g.held in
      rw h.here at ((g.lawful.units.each h.unit h.below).stand.mapped (λ z. g.aimed (sym h.here ∙ z))).room

  pub crowd_some : 1 ≤ crowd b target
  crowd_some =
      let h = g.held in
      rw (crowd_is b target)
      (tally_pos (equals b.units.state.hex target) b.units.count h.unit h.below
      (equals_yes b.units.state.hex target h.unit h.here))

  -- "Stage 0: no roles"
  pub no_role : (w : ℕ) → w < b.units.count → b.units.state.role w ≡ Role.none
  no_role w l =
      let q = g.lawful.stage.during.quiet g.quiet in
      let m = (g.lawful.units.each w l).duty.role in
      let x = holders_none b Role.owes w q.owing l in
      let y = holders_none b Role.advances w q.advancing l in
      omega arith

-- the participants are turned over and marked
pub record Shown (b m : Board) (target : ℕ) (units : List ℕ) : Type 0 where
  pub lawful : Lawful m
  pub still : Still b m
  pub attackers : (w : ℕ) → named units w ≡ true → has tried (m.units.state.marks w) ≡ true
  pub defenders : (w : ℕ) → w < b.units.count → b.units.state.hex w ≡ target → has tried (m.units.state.marks w) ≡ true

-- what becomes of the units
pub record Sides (b m c : Board) (target : ℕ) (units : List ℕ) (o : Upshot) : Type 0 where
  pub fixed : Fixed m c
  pub attackers : (w : ℕ) → named units w ≡ true → Fated m.units c.units o.attackers w
  pub defenders : (w : ℕ) → w < b.units.count → b.units.state.hex w ≡ target → Fated m.units c.units o.defenders w
  pub others : (w : ℕ) → named units w ≡ false → (b.units.state.hex w ≡ target → ⊥) → Same m.units c.units w

-- and of the desk
pub record Desked (b c : Board) (o : Upshot) : Type 0 where
  pub clock : c.desk.clock ≡ b.desk.clock
  pub stage : c.desk.battle.stage ≡ o.stage
  pub owed : c.desk.battle.owed ≡ o.owed
  pub need : o.stage ≡ Stage.losses → In 1 c.desk.battle.need 1080
  pub free : (o.stage ≡ Stage.losses → ⊥) → c.desk.battle.need ≡ 0
  pub unrouted : o.stage ≡ Stage.retreats → c.desk.route ≡ b.desk.route
  pub routes : RoutesOk c

module _
    {b m c : Board}
    {target : ℕ}
    {units : List ℕ}
    {o : Upshot}
    (g : Ready b target units)
    (q : Shown b m target units)
    (a : Sides b m c target units o)
    (z : Sensible o) where
  all_fixed : Fixed b c
  all_fixed = fixed_trans q.still.fixed a.fixed

  -- a unit attacks, defends, or takes no part
  lot :
      {X : Type 0} (w : ℕ) → w < b.units.count
      → (named units w ≡ true → Fated m.units c.units o.attackers w → X)
      → (b.units.state.hex w ≡ target → Fated m.units c.units o.defenders w → X)
      → (Same m.units c.units w → X)
      → X
  lot w l x y n =
      either (named units w) (λ e. x e (a.attackers w e))
      (λ e. same_or (b.units.state.hex w) target (λ h. y h (a.defenders w l h)) (λ h. n (a.others w e h)))

  hex_shown : (w : ℕ) → m.units.state.hex w ≡ b.units.state.hex w
  hex_shown w = λ i. q.still.hex i w

  alone : (w : ℕ) → w < c.units.count → AloneOk c w
  alone w l =
      let k : w < m.units.count = omega (arith, a.fixed.count) in
      let n : w < b.units.count = omega (arith, q.still.fixed.count) in
      let was = alone_of q.lawful.units w k in
      lot w n
      (λ e f.
      alone_fated a.fixed o.attackers w f z.attackers (λ _. q.attackers w e)
      (λ _ x. (attacker_of g w e).mapped (sym (hex_shown w) ∙ x))
      was)
      (λ e f.
      alone_fated a.fixed o.defenders w f z.defenders (λ _. q.defenders w n e)
      (λ _ x. g.aimed (sym e ∙ sym (hex_shown w) ∙ x))
      was)
      (λ e. alone_same a.fixed w e was)

  fated_hex : {r w : ℕ} → Fated m.units c.units r w → (c.units.state.hex w ≡ nowhere → ⊥) → c.units.state.hex w ≡ m.units.state.hex w
  fated_hex {r} f n = same_or r 0 (λ e. absurd (n (f.lost e).hex)) (λ e. f.stays e)

  stacks : StacksOk c
  stacks =
      let most : m.map.hexes ≤ nowhere = rw q.still.fixed.map g.most in
      stacks_fewer a.fixed most
      (λ w l n. lot w (omega (arith, q.still.fixed.count)) (λ _ f. fated_hex f n) (λ _ f. fated_hex f n) (λ e. e.hex))
      (stacks_of q.lawful.units most)

  -- who has a role has it by its side
  side :
      {X : Type 0} (r w : ℕ) → w < b.units.count → (r ≡ 0 → ⊥) → c.units.state.role w ≡ r
      → (o.attackers ≡ r → named units w ≡ true → X) → (o.defenders ≡ r → b.units.state.hex w ≡ target → X) → X
  side r w l n e x y =
      lot w l (λ k f. x (sym f.role ∙ e) k) (λ k f. y (sym f.role ∙ e) k)
      (λ f.
      let s : m.units.state.role w ≡ b.units.state.role w = λ i. q.still.role i w in
      absurd (n (sym e ∙ f.role ∙ s ∙ no_role g w l)))

  attacker_force : (w : ℕ) → named units w ≡ true → force_of c w ≡ b.desk.clock.force
  attacker_force w e = force_by all_fixed w ∙ (attacker_of g w e).force

  enemy_force : (w : ℕ) → w < b.units.count → b.units.state.hex w ≡ target → force_of c w ≡ force_of b g.held.unit
  enemy_force w l e = force_by all_fixed w ∙ defender_force g w l e

  below : {w : ℕ} → w < c.units.count → w < b.units.count
  below l = omega (arith, all_fixed.count)

  one_force : (r : ℕ) → (r ≡ 0 → ⊥) → OneForce c r
  one_force r n u l w k e f =
      side r u (below l) n e
      (λ x i.
      side r w (below k) n f (λ _ j. attacker_force w j ∙ sym (attacker_force u i)) (λ y j. absurd (z.apart (x ∙ sym y))))
      (λ x i.
      side r w (below k) n f (λ y j. absurd (z.apart (y ∙ sym x)))
      (λ _ j. enemy_force w (below k) j ∙ sym (enemy_force u (below l) i)))

  roles : RolesOk c
  roles =
      record {
        owing = one_force 1 (λ e. omega arith);
        advancing = one_force 2 (λ e. omega arith);
        apart =
            λ u l w k e f h.
            side 1 u (below l) (λ x. omega arith) e
            (λ x i.
            side 2 w (below k) (λ y. omega arith) f (λ y j. omega arith)
            (λ y j. g.held.enemy (sym (enemy_force w (below k) j) ∙ h ∙ attacker_force u i)))
            (λ x i.
            side 2 w (below k) (λ y. omega arith) f
            (λ y j. g.held.enemy (sym (enemy_force u (below l) i) ∙ sym h ∙ attacker_force w j))
            (λ y j. omega arith));
      }

  units_after : UnitsOk c
  units_after = units_asked alone stacks roles

  -- how many have a role: none, some, and no more than the side has units
  nobody : (r : ℕ) → (r ≡ 0 → ⊥) → (o.attackers ≡ r → ⊥) → (o.defenders ≡ r → ⊥) → holders c r ≡ 0
  nobody r n x y = holders_nought c r (λ w l e. side r w (below l) n e (λ i _. x i) (λ i _. y i))

  -- a unit of each side
  attacking : (get_or units 0 0 < c.units.count) × (c.units.state.role (get_or units 0 0) ≡ o.attackers)
  attacking =
      let h = first_named g in
      (omega (arith, all_fixed.count, (attacker_of g (get_or units 0 0) h).below), (a.attackers (get_or units 0 0) h).role)

  defending : (g.held.unit < c.units.count) × (c.units.state.role g.held.unit ≡ o.defenders)
  defending =
      let h = g.held in
      (omega (arith, all_fixed.count, h.below), (a.defenders h.unit h.below h.here).role)

  holders_some : (r : ℕ) → ((o.attackers ≡ r → ⊥) → o.defenders ≡ r) → 1 ≤ holders c r
  holders_some r f =
      same_or o.attackers r (λ e. holders_pos c r (get_or units 0 0) attacking.0 (attacking.1 ∙ e))
      (λ n. holders_pos c r g.held.unit defending.0 (defending.1 ∙ f n))

  holders_most : (r : ℕ) → (r ≡ 0 → ⊥) → holders c r ≤ 18
  holders_most r n =
      same_or o.attackers r
      (λ e.
      let h =
      tally_le (equals c.units.state.role r) (named units) c.units.count
      (λ w l k. side r w (below l) n (equals_is c.units.state.role r w k) (λ _ i. i) (λ y _. absurd (z.apart (e ∙ sym y))))
      in
      omega (arith, holders_is c r, tally_named units c.units.count, g.many))
      (λ d.
      let h =
      tally_le (equals c.units.state.role r) (equals b.units.state.hex target) c.units.count
      (λ w l k. side r w (below l) n (equals_is c.units.state.role r w k) (λ y _. absurd (d y)) (λ _ i. equals_yes b.units.state.hex target w i))
      in
      omega (arith, holders_is c r, crowd_is b target, ap (tally (equals b.units.state.hex target)) all_fixed.count, crowd_there g))

  -- where nobody is destroyed, the hexes of those that owe: the target, or hexes beside it
  hex_after :
      (w : ℕ) → w < b.units.count → (o.attackers ≡ 0 → ⊥) → (o.defenders ≡ 0 → ⊥) → c.units.state.hex w ≡ b.units.state.hex w
  hex_after w l x y =
      lot w l (λ _ f. f.stays x) (λ _ f. f.stays y) (λ f. f.hex) ∙ hex_shown w

  owing_six : o.attackers + o.defenders ≡ 3 → owing_hexes c ≤ 6
  owing_six e =
      let la = z.attackers in
      let ld = z.defenders in
      let x : o.attackers ≡ 0 → ⊥ = λ i. absurd (omega arith) in
      let y : o.defenders ≡ 0 → ⊥ = λ i. absurd (omega arith) in
      same_or o.attackers 1
      (λ i.
      let joins : (w : ℕ) → w < c.units.count → c.units.state.role w ≡ Role.owes → joined b.map (c.units.state.hex w) target ≡ true =
      λ w l r.
      ap (λ (h : ℕ). joined b.map h target) (hex_after w (below l) x y)
      ∙ side 1 w (below l) (λ k. omega arith) r (λ _ j. (attacker_of g w j).beside) (λ j _. absurd (omega arith))
      in
      owing_most c (λ h. bearing b.map h target) 6
      (λ w l r. bearing_below b.map (c.units.state.hex w) target (joins w l r))
      (λ u w l k r s j. joined_one b.map target (c.units.state.hex u) (c.units.state.hex w) (joins u l r) (joins w k s) j))
      (λ n.
      let there : (w : ℕ) → w < c.units.count → c.units.state.role w ≡ Role.owes → c.units.state.hex w ≡ target =
      λ w l r.
      hex_after w (below l) x y ∙ side 1 w (below l) (λ k. omega arith) r (λ j _. absurd (n j)) (λ _ j. j)
      in
      owing_most c (λ h. 0) 6 (λ w l r. omega arith) (λ u w l k r s j. there u l r ∙ sym (there w k s)))

  owing_one : o.attackers + o.defenders ≡ 3 → 1 ≤ owing_hexes c
  owing_one e =
      let la = z.attackers in
      let ld = z.defenders in
      same_or o.attackers 1 (λ i. owing_some c (get_or units 0 0) attacking.0 (attacking.1 ∙ i))
      (λ n. owing_some c g.held.unit defending.0 (defending.1 ∙ omega arith))

  module _ (d : Desked b c o) where
    during : DuringOk c
    during =
        let la = z.attackers in
        let ld = z.defenders in
        let s = d.stage in
        let f = z.stage in
        let p = z.apart in
        record {
          quiet = λ e. absurd (omega arith);
          retreats =
              λ e.
              let i : o.stage ≡ Stage.retreats = sym s ∙ e in
              let h = z.retreats i in
              let none = routes_by all_fixed (d.unrouted i) ∙ (g.lawful.stage.during.quiet g.quiet).routes in
              record { owed = rw d.owed (z.owed i); some = owing_one h; room = omega (arith, owing_six h) };
          losses =
              λ e.
              let i : o.stage ≡ Stage.losses = sym s ∙ e in
              let h = z.losses i in
              record {
                need = d.need i;
                owing =
                    record {
                      low = holders_some 1 (λ n. omega arith);
                      high = holders_most 1 (λ n. omega arith);
                    };
                advancing = nobody 2 (λ n. omega arith) (λ n. omega arith) (λ n. omega arith);
              };
          advances =
              λ e.
              let i : o.stage ≡ Stage.advances = sym s ∙ e in
              let h = z.advances i in
              record {
                advancing = holders_some 2 (λ n. omega arith);
                owing = nobody 1 (λ n. omega arith) (λ n. omega arith) (λ n. omega arith);
              };
        }

    stage_after : StageOk c
    stage_after =
        record {
          during = during;
          owed = λ n. d.owed ∙ z.free (λ e. n (d.stage ∙ e));
          need = λ n. d.free (λ e. n (d.stage ∙ e));
        }

    pub lawful_after : Lawful c
    lawful_after =
        lawful_since g.lawful (record { fixed = all_fixed; clock = d.clock; units = units_after; routes = d.routes })
        (omega (arith, d.stage, z.stage))
        (λ _. g.phase)
        stage_after
