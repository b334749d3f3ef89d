-- The orders of a game, the rule for each, and the ruling: the very verdicts that the calls promise.
-- Assumes nothing.
use Rattle.std.specs.Prelude.{ℕ, List}
use Rattle.ruling.specs.Verdict.{Verdict, Outcome}
use Rattle.ruling.specs.Packed.{Replies}
use Rattle.ruling.specs.Packed.Replies.{plainly, of_battle, of_retreat}
use Rattle.ruling.specs.Secret.{Sent, Rules, verdict_on, after_call}
use Rattle.supply.specs.Supply.{supply_rule}
use Rattle.march.specs.Move.{move_rule}
use Rattle.march.specs.EndPhase.{end_rule}
use Rattle.battle.specs.Battle.{attack_rule}
use Rattle.aftermath.specs.Losses.{losses_rule}
use Rattle.aftermath.specs.Advance.{advance_rule, close_rule}
use Rattle.retreat.specs.Retreat.{retreat_rule}

-- an order has the numbers and lists of a call; what is lent with it is kept apart
pub data Order : Type 0 where
  supply : ℕ → Order
  move : ℕ → List ℕ → Order
  end_phase : Order
  -- target, units, die
  attack : ℕ → List ℕ → ℕ → Order
  -- hex, route and pushes
  retreat : ℕ → List ℕ → List ℕ → Order
  losses : List ℕ → Order
  -- unit and hex
  advance : ℕ → ℕ → Order
  close : Order

unfoldable pub rule_of : Rules Order
rule_of b (supply n) long = supply_rule b n long
rule_of b (move u path) long = move_rule b u path
rule_of b end_phase long = end_rule b long
rule_of b (attack target units die) long = attack_rule b target units die long
rule_of b (retreat hex route pushes) long = retreat_rule b hex route pushes
rule_of b (losses units) long = losses_rule b units
rule_of b (advance unit hex) long = advance_rule b unit hex
rule_of b close long = close_rule b

-- "The answer is column, from 1, and result code" of an attack; "retreated with its end, destroyed" of a retreat
unfoldable pub replies_of : Order → Replies
replies_of (supply n) = plainly
replies_of (move u path) = plainly
replies_of end_phase = plainly
replies_of (attack target units die) = of_battle
replies_of (retreat hex route pushes) = of_retreat
replies_of (losses units) = plainly
replies_of (advance unit hex) = plainly
replies_of close = plainly

-- the ruling on an order with the bytes lent: refusal 1 unless the position is accepted
abbrev pub verdict : List ℕ → Order → List ℕ → Verdict
verdict p o l = verdict_on rule_of p (record { order = o; lent = l })

-- what a call answers and leaves
abbrev pub step : List ℕ → Sent Order → Outcome
step p c = after_call rule_of p c
