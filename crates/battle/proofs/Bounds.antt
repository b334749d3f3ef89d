-- What an attack answers has room in a number: a column of the table, and its code.
-- Assumes nothing.
use Prim.Native.Nat.{ℕ, ◌+◌, ◌*◌, ◌<◌}
use mathlib.Core.Path.{◌≡◌, refl}
use mathlib.Core.Bool.{false, not}
use mathlib.Core.List.{List, []}
use native.Mathlib.Omega.{arith}
use lib.Dec.{leb, eqb}
use Rattle.position.specs.Board.{board}
use Rattle.acceptance.specs.Accepted.{Accepted}
use Rattle.line.specs.Line.{fighting_total}
use Rattle.ruling.specs.Verdict.{judged}
use Rattle.ruling.specs.Packed.Replies.{of_battle}
use Rattle.ruling.proofs.Bounded.{Bounded, bounded_at, bounded_each, bounded_past, bounded_seen}
use Rattle.field.specs.Listed.{and_then, list_length, named}
use Rattle.field.specs.Phasing.{not_phasing}
use Rattle.field.proofs.Bounds.{there_bounded}
use Rattle.field.proofs.Lists.{list_in}
use Rattle.odds.specs.Odds.{column, multiple_at, reached}
use Rattle.odds.proofs.Columns.{last_small}
use Rattle.results.specs.Participants.{participants}
use Rattle.battle.specs.Attack.{attack_checks, attacker, attackers, cannot_attack, die_fits, in_range, may_attack_now, no_target, not_beside}
use Rattle.battle.specs.Battle.{attack_rule, battle, code_of, column_of, ruled}
use Rattle.battle.specs.Line.{attack_line, defence_line}
use Rattle.battle.proofs.KeepAttack.{code_fits, die_in}

module _ {p : List ℕ} (a : Accepted p) (target : ℕ) (units : List ℕ) where
  column_small : (ss : List ℕ) → column_of (board p) target units ss + 1 < 256
  unfolding column_of column
  column_small ss =
      let b = board p in
      let k = a.shaped.columns in
      omega
      (arith, k.high, last_small (reached b.results (fighting_total (attack_line b units ss)) (fighting_total (defence_line b target units ss) * multiple_at b target units)) b.results.columns k.low)

  code_small : (die : ℕ) → not (die_fits die) ≡ false → (ss : List ℕ) → code_of (board p) target units die ss < 65536
  unfolding code_of column_of
  code_small die e ss =
      let b = board p in
      let d = die_in die e in
      omega
      (arith, (code_fits a.lawful a.shaped.columns.low (fighting_total (attack_line b units ss)) (fighting_total (defence_line b target units ss) * multiple_at b target units) die d.low d.high).high)

  pub attack_bounded : {l : List ℕ} (die long : ℕ) → Bounded of_battle p l (attack_rule (board p) target units die long)
  unfolding attack_rule attack_checks in_range attackers attacker battle ruled judged
  attack_bounded die long =
      let b = board p in
      bounded_past (not (list_length units)) refl
      (λ e.
      let few = (list_in units e).high in
      bounded_past (not (eqb long b.map.hexes)) refl
      (λ _.
      bounded_past (leb b.map.hexes target) refl
      (λ _.
      bounded_past (not (die_fits die)) refl
      (λ d.
      there_bounded b units _ (omega (arith, few))
      (bounded_past (not (may_attack_now b)) refl
      (λ _.
      bounded_past (no_target b target) refl
      (λ _.
      bounded_each (λ _. Unit {0}) and_then
      (λ s x k v i f.
      bounded_at (not_phasing b x) refl i
      (λ _.
      bounded_at (cannot_attack b x) refl i
      (λ _. bounded_at (named s x) refl i (λ _. bounded_at (not_beside b target x) refl i (λ _. f tt)))))
      []
      units
      1
      _
      (omega (arith, few))
      (λ _ _.
      bounded_seen (participants b target units) (ruled b target units die)
      (λ _ ss. (refl, column_small ss, code_small die d ss))))))))))
