-- The end of a phase goes on: it is accepted in stage 0 unless the game is over, and a phase less is left.
-- Assumes nothing.
use Prim.Native.Nat.{ℕ, ◌<◌}
use mathlib.Core.Path.{◌≡◌, refl, ap, ◌∙◌}
use mathlib.Core.Bool.{false, not}
use mathlib.Core.List.{List}
use native.Mathlib.Omega.{arith}
use lib.ListN.{length, length-replicate, replicate}
use borrow.Author.Tests.{eq-eqb}
use Rattle.position.specs.Board.{Board, Desk, board}
use Rattle.position.specs.Effect.{changes}
use Rattle.position.specs.Stage as Stage
use Rattle.acceptance.proofs.Clocks.{timely}
use Rattle.acceptance.specs.Accepted.{Accepted, Lawful}
use Rattle.ruling.proofs.Meets.{pass, ruled}
use Rattle.clock.specs.Clock.{is_last}
use Rattle.clock.proofs.Turns.{next_less}
use Rattle.march.specs.EndPhase.{end_changes, end_rule}
use Rattle.march.proofs.EndDesk.{end_desk}
use Rattle.rules.specs.Order.{rule_of}
use Rattle.rules.specs.Order.Order.{end_phase}
use Rattle.rules.specs.Onward.{battle_left, left, phases_of}
use Rattle.rules.proofs.OnwardCall.{Goes, goes_met}
use Rattle.rules.proofs.OnwardStage.{left_quiet}

module _ {b : Board} (l : Lawful b) (e : b.desk.battle.stage ≡ Stage.quiet) (more : is_last b.desk.clock b.desk.last_turn ≡ false) where
  end_phases : phases_of (changes b (end_changes b)) < phases_of b
  end_phases =
      let n = next_less b.desk.last_turn b.desk.clock (timely l.clock) more in
      rw (end_desk b) (omega (arith, n))

  end_quiet : battle_left (changes b (end_changes b)) ≡ 0
  end_quiet = left_quiet (changes b (end_changes b)) (ap (λ (d : Desk). d.battle.stage) (end_desk b) ∙ e)

  end_falls : left (changes b (end_changes b)) < left b
  unfolding left
  end_falls = omega (arith, end_phases, end_quiet)

pub end_goes :
    {p : List ℕ} → Accepted p → (board p).desk.battle.stage ≡ Stage.quiet → is_last (board p).desk.clock (board p).desk.last_turn ≡ false
    → Goes p (record { order = end_phase; lent = replicate (board p).map.hexes 0 })
unfolding rule_of end_rule
end_goes {p} a e more =
    let b = board p in
    let n = b.map.hexes in
    let l : List ℕ = replicate n 0 in
    goes_met a (record { order = end_phase; lent = l }) (end_changes b)
    (pass (ap not (eq-eqb (length l) n (length-replicate {A = ℕ} n 0)))
    (pass (ap not (eq-eqb b.desk.battle.stage Stage.quiet e)) (pass more (ruled refl))))
    (end_falls a.lawful e more)
