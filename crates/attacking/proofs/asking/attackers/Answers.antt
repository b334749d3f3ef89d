-- `asking::attackers` meets its contract. The loop's invariant: what meets the tests from the next place on meets them all.
-- Assumes nothing.
use native.Mathlib.Omega.{arith}
use Rattle.std.proofs.lemmas.Result.{err_from_is_err_and}
use Rattle.ruling.proofs.Going.{gone_end, gone_none, gone_stop}
use Rattle.battle.proofs.Asks.{asked_more}
use Rattle.battle.specs.Attack.{attackers}
use Rattle.attacking.proofs.asking.attackers.Goals as goal

pub loop-i-init : goal.loop-i-init
loop-i-init c = record { gone = gone_none; able = λ j l. absurd (omega arith) }

pub attacker-requires : goal.attacker-requires
attacker-requires c = (c.requires.0, omega arith, omega arith)

pub returns-in_err-attacker : goal.returns-in_err-attacker
unfolding attackers
returns-in_err-attacker c =
    let e = err_from_is_err_and c.from_residual.result c.from_residual.ensures.1 in
    rw (e.1, e.2) (λ l v. gone_stop c.loop-i.invariant.gone (omega arith) c.in_err-attacker.ensures l (λ s. v))

pub loop-i-preserved : goal.loop-i-preserved
loop-i-preserved c = asked_more c.loop-i.invariant (omega arith) c.in_ok-attacker.ensures

pub returns : goal.returns
unfolding attackers
returns c = (λ l v a q m w. gone_end c.loop-i.invariant.gone (omega arith) l (λ s. v) a q m w, λ j l. c.loop-i.invariant.able j (omega arith))
