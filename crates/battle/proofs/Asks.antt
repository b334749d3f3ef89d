-- Laws of the questions of an attack: each test by its cases, and the tests of one attacker in their order.
-- Assumes nothing.
use Prim.Native.Nat.{◌+◌, ◌<◌, ◌≤◌, ℕ}
use mathlib.Core.Bool.{and-false, false, true}
use mathlib.Core.List.{List, []}
use mathlib.Core.Path.{◌≡◌}
use borrow.Author.Count.{below_more}
use borrow.Author.Tests.{eq-eqb, le-leb, lt-leb, ne_eqb, not-false}
use lib.Dec.{eqb}
use lib.ListN.{get_or, length, take}
use Rattle.position.specs.Bits.{fought, has}
use Rattle.position.specs.Board.{Board, board}
use Rattle.position.specs.Ground.{joined}
use Rattle.position.specs.Kind.{may_attack}
use Rattle.position.specs.Tally.{any}
use Rattle.position.specs.Stage as Stage
use Rattle.position.specs.Layout.{die_faces}
use Rattle.ruling.proofs.Going.{Gone, gone_more}
use Rattle.ruling.proofs.Meets.{pass, stop}
use Rattle.ruling.specs.Judged.{Passes, Stops}
use Rattle.field.proofs.Lists.{take_more}
use Rattle.field.proofs.Zones.{stands_here, stands_off}
use Rattle.field.specs.Listed.{and_then, named}
use Rattle.field.specs.Phasing.{not_phasing}
use Rattle.field.specs.Scene.{scene}
use Rattle.field.specs.Zone.{holds_enemy}
use Rattle.odds.specs.Adjacent.{AllAdjacent}
use Rattle.battle.specs.Asked.{Faces, Engaged}
use Rattle.battle.specs.Attack.{attacker, cannot_attack, die_fits, fought_on, may_attack_now, no_target, not_beside}
use Rattle.clock.specs.Phase as Phase

module _ (die : ℕ) where
  pub die_low : die < 1 → die_fits die ≡ false
  unfolding die_fits
  die_low l = simp (lt-leb 1 die l)

  pub die_high : 6 < die → die_fits die ≡ false
  unfolding die_fits
  die_high l = simp (lt-leb die die_faces l, and-false)

  pub die_fits_lem : 1 ≤ die → die ≤ die_faces → die_fits die ≡ true
  unfolding die_fits
  die_fits_lem l m = simp (le-leb 1 die l, le-leb die die_faces m)

module _ (b : Board) where
  -- another stage, and stage 0
  pub attack_late : (b.desk.battle.stage ≡ Stage.quiet → ⊥) → may_attack_now b ≡ false
  unfolding may_attack_now
  attack_late e = simp (ne_eqb b.desk.battle.stage Stage.quiet e)

  pub attack_phase : b.desk.battle.stage ≡ Stage.quiet → may_attack_now b ≡ eqb b.desk.clock.phase Phase.combat
  unfolding may_attack_now
  attack_phase e = simp (eq-eqb b.desk.battle.stage Stage.quiet e)

  -- no Enemy there, and one
  pub target_empty : (h : ℕ) → holds_enemy (scene b) b.desk.clock.force h ≡ false → no_target b h ≡ true
  unfolding no_target
  target_empty h e = simp e

  pub target_held : (h : ℕ) → holds_enemy (scene b) b.desk.clock.force h ≡ true → no_target b h ≡ any (fought_on b h) b.units.count
  unfolding no_target
  target_held h e = simp e

  module _ (h u : ℕ) where
    pub fought_here : b.units.state.hex u ≡ h → fought_on b h u ≡ has fought (b.units.state.marks u)
    unfolding fought_on
    fought_here e = simp (stands_here (scene b) h u e)

    pub fought_off : (b.units.state.hex u ≡ h → ⊥) → fought_on b h u ≡ false
    unfolding fought_on
    fought_off e = simp (stands_off (scene b) h u e)

  module _ (u : ℕ) where
    pub cannot_type : may_attack (b.units.counter.kind u) ≡ false → cannot_attack b u ≡ true
    unfolding cannot_attack
    cannot_type e = simp e

    pub cannot_mark : may_attack (b.units.counter.kind u) ≡ true → cannot_attack b u ≡ has fought (b.units.state.marks u)
    unfolding cannot_attack
    cannot_mark e = simp e

-- the tests of one attacker, in their order
module _ (p : List ℕ) (b : Board) (target : ℕ) (before : List ℕ) (u k : ℕ) where
  pub stops_phasing : not_phasing b u ≡ true → Stops p (attacker b target before u k) 4 k
  unfolding attacker
  stops_phasing e l v = stop e

  module _ (e : not_phasing b u ≡ false) where
    pub stops_type : cannot_attack b u ≡ true → Stops p (attacker b target before u k) 5 k
    unfolding attacker
    stops_type f l v = pass e (stop f)

    module _ (f : cannot_attack b u ≡ false) where
      pub stops_named : named before u ≡ true → Stops p (attacker b target before u k) 6 k
      unfolding attacker
      stops_named g l v = pass e (pass f (stop g))

      module _ (g : named before u ≡ false) where
        pub stops_apart : not_beside b target u ≡ true → Stops p (attacker b target before u k) 13 k
        unfolding attacker
        stops_apart h l v = pass e (pass f (pass g (stop h)))

        pub passes_attacker : not_beside b target u ≡ false → Passes p (attacker b target before u k) × Faces b target u
        unfolding attacker
        passes_attacker h =
            (λ l v a q m w. pass e (pass f (pass g (pass h w))), record { phasing = e; beside = h })

-- the attackers' tests, passed up to place i
pub record Asked (p : List ℕ) (target : ℕ) (units : List ℕ) (i : ℕ) : Type 0 where
  pub gone : Gone p (attacker (board p) target) and_then [] units i (take i units)
  pub able : (j : ℕ) → j < i → Faces (board p) target (get_or units j 0)

pub asked_more :
    {p : List ℕ} {target : ℕ} {units : List ℕ} {i : ℕ} → Asked p target units i → i < length units
    → Passes p (attacker (board p) target (take i units) (get_or units i 0) (i + 1)) × Faces (board p) target (get_or units i 0)
    → Asked p target units (i + 1)
unfolding and_then
asked_more {p} {target} {units} {i} o l t =
    record {
      gone = rw (take_more units i l) (gone_more o.gone l t.0);
      able = below_more (λ j. Faces (board p) target (get_or units j 0)) i o.able t.1;
    }

-- past every question the attackers are adjacent to the target
pub all_adjacent : {b : Board} {target : ℕ} {units : List ℕ} {long : ℕ} → Engaged b target units long → AllAdjacent b target units
unfolding not_beside
all_adjacent {b} {target} {units} e i l = not-false (joined b.map (b.units.state.hex (get_or units i 0)) target) (e.able i l).beside
