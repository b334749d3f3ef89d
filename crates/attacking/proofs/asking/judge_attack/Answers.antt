-- `asking::judge_attack` meets its contract: each test's answer is its function's, one after the other.
-- Assumes nothing.
use mathlib.Core.Bool.{not}
use mathlib.Core.Path.{◌∙◌, ap, sym}
use Rattle.std.proofs.lemmas.Result.{err_from_is_err_and}
use Rattle.ruling.proofs.Going.{tested_through}
use Rattle.ruling.proofs.Meets.{pass, stop}
use Rattle.battle.specs.Attack.{attack_checks}
use Rattle.attacking.proofs.asking.judge_attack.Goals as goal

pub in_range-requires : goal.in_range-requires
in_range-requires c = c.requires

pub returns-in_err-in_range : goal.returns-in_err-in_range
unfolding attack_checks
returns-in_err-in_range c =
    let e = err_from_is_err_and c.from_residual.result c.from_residual.ensures.1 in
    rw (e.1, e.2) (λ l v. c.in_err-in_range.ensures l _)

pub returns-then-not-may_attack_now : goal.returns-then-not-may_attack_now
unfolding attack_checks
returns-then-not-may_attack_now c = λ l v. c.in_ok-in_range.ensures.0 l _ _ _ _ (stop (ap not (sym c.may_attack_now.ensures ∙ c.if-not-may_attack_now.true)))

pub returns-then-no_target : goal.returns-then-no_target
unfolding attack_checks
returns-then-no_target c =
    λ l v.
    c.in_ok-in_range.ensures.0 l _ _ _ _
    (pass (ap not (sym c.may_attack_now.ensures ∙ c.if-not-may_attack_now.false)) (stop (sym c.no_target.ensures ∙ c.if-no_target.true)))

pub attackers-requires : goal.attackers-requires
attackers-requires c = (c.requires, c.in_ok-in_range.ensures.1.most)

pub returns : goal.returns
unfolding attack_checks
returns c =
    let k = c.in_ok-in_range.ensures in
    tested_through
    (λ l v a q m w.
    k.0 l _ a q m
    (pass (ap not (sym c.may_attack_now.ensures ∙ c.if-not-may_attack_now.false)) (pass (sym c.no_target.ensures ∙ c.if-no_target.false) w)))
    (λ n. record { range = k.1; able = n })
    c.attackers.result
    c.attackers.ensures
