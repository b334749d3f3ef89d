-- An accepted position stays accepted after an attack.
-- Assumes nothing.
use Prim.Native.Nat.{ℕ, ◌+◌, ◌-◌, ◌*◌, ◌≤◌, ◌<◌}
use mathlib.Core.Path.{◌≡◌, ap, ◌∙◌}
use mathlib.Core.Bool.{true, false, not, ◌&&◌}
use mathlib.Core.List.{List, [], ◌∷◌, map}
use native.Mathlib.Omega.{arith}
use lib.Dec.{leb, eqb}
use borrow.Author.Tests.{leb-true, leb-false, eqb-true, eqb-false, not-false}
use Rattle.position.specs.Tally.{any}
use Rattle.position.specs.Layout.{strength, die_faces}
use Rattle.position.specs.Board.{Board, board, nowhere, force_of, enemy}
use Rattle.position.specs.Ground.{joined}
use Rattle.position.specs.Shape.{In}
use Rattle.position.specs.Stage as Stage
use Rattle.position.proofs.Shapes.{hexes_most}
use Rattle.position.proofs.Tallies.{both_yes, neither, any_some}
use Rattle.acceptance.specs.Accepted.{Accepted, Lawful}
use Rattle.ruling.specs.Verdict.{turned_all}
use Rattle.ruling.specs.Secret.{Each}
use Rattle.ruling.proofs.Kept.{Kept, kept_past, kept_ruled}
use Rattle.ruling.proofs.Turning.{uncovered, kept_seen, kept_each}
use Rattle.field.specs.Scene.{scene, force_in}
use Rattle.field.specs.Phasing.{not_phasing}
use Rattle.field.specs.Zone.{stands_on, enemy_on, holds_enemy}
use Rattle.field.proofs.Lists.{list_in}
use Rattle.field.proofs.Zones.{force_in_lem, enemy_other}
use Rattle.field.specs.Listed.{list_length, no_unit, all_there, named, and_then}
use Rattle.results.specs.declared.Upshot.{Upshot}
use Rattle.battle.specs.Attack.{die_fits, may_attack_now, fought_on, no_target, cannot_attack, not_beside, attacker, attackers, in_range, attack_checks}
use Rattle.results.specs.Participants.{defenders, participants}
use Rattle.battle.specs.Line.{attack_line, defence_line}
use Rattle.line.specs.Line.{fighting_total, printed_total}
use Rattle.odds.specs.Odds.{multiple_at, reached, last, column}
use Rattle.results.specs.Results.{upshot, battle_changes}
use Rattle.battle.specs.Battle.{column_of, code_of, need_for, ruled, battle, attack_rule}
use Rattle.ruling.proofs.Secrets.{each_by}
use Rattle.odds.proofs.Columns.{last_small}
use Rattle.results.proofs.Upshots.{sensible, NeedOk, need_ok}
use Rattle.battle.proofs.Totals.{attack_total, defence_total}
use Rattle.battle.proofs.LawfulAfter.{Held, Ready, crowd_there, crowd_some}
use Rattle.battle.proofs.Battles.{defenders_each, defenders_long, stands_is, attackers_below, lawful_battle}
use Rattle.clock.specs.Phase as Phase

-- what each question leaves known
pub die_in : (die : ℕ) → not (die_fits die) ≡ false → In 1 die die_faces
unfolding die_fits
die_in die e =
    let h = both_yes (leb 1 die) (leb die die_faces) (not-false (leb 1 die && leb die die_faces) e) in
    record { low = leb-true 1 die h.0; high = leb-true die die_faces h.1 }

-- the column is one of the table, and so its code is a result
pub code_fits :
    {b : Board} → Lawful b → 1 ≤ b.results.columns → (attack defence die : ℕ) → 1 ≤ die → die ≤ die_faces
    → In 1 (b.results.code (column b.results attack defence) die) 10
unfolding column
code_fits {b} o l attack defence die h k =
    let e : die - 1 + 1 ≡ die = omega arith in
    rw e at
    ((o.results.columns (last (reached b.results attack defence) b.results.columns)
    (last_small (reached b.results attack defence) b.results.columns l)
    ).codes
    (die - 1)
    (omega arith))

module _ (b : Board) where
  now : not (may_attack_now b) ≡ false → (b.desk.battle.stage ≡ Stage.quiet) × (b.desk.clock.phase ≡ Phase.combat)
  unfolding may_attack_now
  now e =
      let x = eqb b.desk.battle.stage Stage.quiet in
      let y = eqb b.desk.clock.phase Phase.combat in
      let h = both_yes x y (not-false (x && y) e) in
      (eqb-true b.desk.battle.stage Stage.quiet h.0, eqb-true b.desk.clock.phase Phase.combat h.1)

  enemy_parts : (f h u : ℕ) → enemy_on (scene b) f h u ≡ true → (b.units.state.hex u ≡ h) × (force_of b u ≡ f → ⊥)
  unfolding enemy_on
  enemy_parts f h u e =
      let x = both_yes (stands_on (scene b) h u) (enemy b f (force_in (scene b) u)) e in
      (stands_is b h u x.0, enemy_other b f (force_of b u) (ap (enemy b f) (force_in_lem b u) ∙ x.1))

  target_held : (target : ℕ) → no_target b target ≡ false → Held b target
  unfolding no_target holds_enemy
  target_held target e =
      let t = enemy_on (scene b) b.desk.clock.force target in
      let n = neither (not (any t b.units.count)) (any (fought_on b target) b.units.count) e in
      let s = any_some t b.units.count (not-false (any t b.units.count) n.0) in
      let h = enemy_parts b.desk.clock.force target s.at s.passes in
      record { unit = s.at; below = s.below; here = h.0; enemy = h.1 }

  phasing_parts : (u : ℕ) → not_phasing b u ≡ false → (b.units.state.hex u ≡ nowhere → ⊥) × (force_of b u ≡ b.desk.clock.force)
  unfolding not_phasing
  phasing_parts u e =
      let n = neither (eqb (b.units.state.hex u) nowhere) (not (eqb (force_of b u) b.desk.clock.force)) e in
      let f = eqb-true (force_of b u) b.desk.clock.force (not-false (eqb (force_of b u) b.desk.clock.force) n.1) in
      (eqb-false (b.units.state.hex u) nowhere n.0, f)

  beside_target : (target u : ℕ) → not_beside b target u ≡ false → joined b.map (b.units.state.hex u) target ≡ true
  unfolding not_beside
  beside_target target u e = not-false (joined b.map (b.units.state.hex u) target) e

-- all that is known of an attacker past its questions but that it is a unit
record Fit (b : Board) (target u : ℕ) : Type 0 where
  phasing : not_phasing b u ≡ false
  beside : not_beside b target u ≡ false

both_each : {P Q R : ℕ → Type 0} → ((u : ℕ) → P u → Q u → R u) → (us : List ℕ) → Each P us → Each Q us → Each R us
both_each f [] h g = tt
both_each f (u ∷ us) h g = (f u h.0 g.0, both_each f us h.1 g.1)

module _ {p : List ℕ} (a : Accepted p) {target : ℕ} {units : List ℕ} (g : Ready (board p) target units) (die : ℕ) (i : In 1 die die_faces) where
  -- the strengths that are turned over, and what they bring about
  abbrev told : List ℕ
  told = map (strength p) (participants (board p) target units)

  abbrev result : Upshot
  result = upshot (code_of (board p) target units die told)

  code_in : In 1 (code_of (board p) target units die told) 10
  unfolding code_of column_of
  code_in =
      let b = board p in
      code_fits a.lawful a.shaped.columns.low (fighting_total (attack_line b units told))
      (fighting_total (defence_line b target units told) * multiple_at b target units)
      die
      i.low
      i.high

  attack_in : In 1 (printed_total (attack_line (board p) units told)) 1080
  attack_in =
      let t = attack_total (board p) (strength p) target units (each_by a.strengths units (attackers_below g)) in
      record { low = omega (arith, t.low, g.some); high = omega (arith, t.high, g.many) }

  defence_in : In 1 (printed_total (defence_line (board p) target units told)) 1080
  defence_in =
      let b = board p in
      let ds = defenders b target in
      let t = defence_total b (strength p) target units (each_by (λ w h. a.strengths w h.0) ds (defenders_each b target)) in
      let e = defenders_long b target in
      record { low = omega (arith, t.low, crowd_some g); high = omega (arith, t.high, crowd_there g) }

  need_in : NeedOk result (need_for (board p) target units die told)
  unfolding need_for
  need_in =
      need_ok result (printed_total (attack_line (board p) units told)) (printed_total (defence_line (board p) target units told))
      attack_in
      defence_in

  kept_battle : {l : List ℕ} → Kept p l (battle (board p) target units die)
  unfolding battle ruled
  kept_battle =
      let b = board p in
      let ps = participants b target units in
      let u = uncovered a ps in
      let need = need_for b target units die told in
      kept_seen a ps (ruled b target units die)
      (kept_ruled u.accepted (battle_changes b target units result need)
      (lawful_battle g (board (turned_all p ps))
      (record { lawful = u.accepted.lawful; still = u.still; tried = u.seen })
      result
      (sensible (code_of b target units die told) code_in)
      need
      need_in))

module _ {p : List ℕ} (a : Accepted p) (target : ℕ) (units : List ℕ) (die : ℕ) where
  pub attack_keeps : {l : List ℕ} (long : ℕ) → Kept p l (attack_rule (board p) target units die long)
  unfolding attack_rule attack_checks in_range all_there no_unit attackers attacker
  attack_keeps long =
      let b = board p in
      kept_past a (not (list_length units))
      (λ n.
      kept_past a (not (eqb long b.map.hexes))
      (λ _.
      kept_past a (leb b.map.hexes target)
      (λ t.
      kept_past a (not (die_fits die))
      (λ d.
      kept_each (λ u. u < b.units.count) (λ s x. s)
      (λ s x k v f. kept_past a (leb b.units.count x) (λ e. f (leb-false b.units.count x e)))
      0
      units
      1
      _
      (λ below _.
      kept_past a (not (may_attack_now b))
      (λ w.
      kept_past a (no_target b target)
      (λ h.
      kept_each (Fit b target) and_then
      (λ s x k v f.
      kept_past a (not_phasing b x)
      (λ e.
      kept_past a (cannot_attack b x)
      (λ _. kept_past a (named s x) (λ _. kept_past a (not_beside b target x) (λ q. f (record { phasing = e; beside = q }))))))
      []
      units
      1
      _
      (λ fit _.
      let some = list_in units n in
      let small = hexes_most a.shaped in
      kept_battle a
      (record {
        lawful = a.lawful;
        most = omega arith;
        some = some.low;
        many = some.high;
        aimed = λ z. omega (arith, leb-false b.map.hexes target t);
        quiet = (now b w).0;
        phase = (now b w).1;
        attackers =
            both_each
            (λ u m k.
            let x = phasing_parts b u k.phasing in
            record { below = m; mapped = x.0; force = x.1; beside = beside_target b target u k.beside })
            units
            below
            fit;
        held = target_held b target h;
      })
      die
      (die_in die d)))))))))
