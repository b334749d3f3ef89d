-- `asking::attacker` meets its contract: each test's answer is its function's, one after the other.
-- Assumes nothing.
use mathlib.Core.Path.{◌∙◌, sym}
use Rattle.battle.proofs.Asks.{passes_attacker, stops_apart, stops_named, stops_phasing, stops_type}
use Rattle.attacking.proofs.asking.attacker.Goals as goal

pub returns-then-not_phasing : goal.returns-then-not_phasing
returns-then-not_phasing c = stops_phasing _ _ _ _ _ _ (sym c.not_phasing.ensures ∙ c.if-not_phasing.true)

pub returns-then-cannot_attack : goal.returns-then-cannot_attack
returns-then-cannot_attack c = stops_type _ _ _ _ _ _ (sym c.not_phasing.ensures ∙ c.if-not_phasing.false) (sym c.cannot_attack.ensures ∙ c.if-cannot_attack.true)

pub returns-then-named : goal.returns-then-named
returns-then-named c = stops_named _ _ _ _ _ _ (sym c.not_phasing.ensures ∙ c.if-not_phasing.false) (sym c.cannot_attack.ensures ∙ c.if-cannot_attack.false) (sym c.named.ensures ∙ c.if-named.true)

pub returns-then-not_beside : goal.returns-then-not_beside
returns-then-not_beside c =
    stops_apart _ _ _ _ _ _ (sym c.not_phasing.ensures ∙ c.if-not_phasing.false) (sym c.cannot_attack.ensures ∙ c.if-cannot_attack.false) (sym c.named.ensures ∙ c.if-named.false)
    (sym c.not_beside.ensures ∙ c.if-not_beside.true)

pub returns : goal.returns
returns c =
    passes_attacker _ _ _ _ _ _ (sym c.not_phasing.ensures ∙ c.if-not_phasing.false) (sym c.cannot_attack.ensures ∙ c.if-cannot_attack.false) (sym c.named.ensures ∙ c.if-named.false)
    (sym c.not_beside.ensures ∙ c.if-not_beside.false)
