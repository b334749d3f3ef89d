-- `asking::cannot_attack` meets its contract: the type is asked first, then the mark.
-- Assumes nothing.
use mathlib.Core.Path.{◌∙◌, ap, sym}
use Rattle.position.specs.Bits.{fought, has}
use Rattle.position.specs.Kind.{may_attack}
use Rattle.battle.proofs.Asks.{cannot_mark, cannot_type}
use Rattle.position.proofs.Answers.{holds}
use Rattle.attacking.proofs.asking.cannot_attack.Goals as goal

pub returns-then-not-may_attack : goal.returns-then-not-may_attack
returns-then-not-may_attack c = sym (cannot_type _ _ (sym (c.may_attack.ensures ∙ ap may_attack c.kind.ensures.is) ∙ c.if-not-may_attack.true))

pub returns : goal.returns
returns c = c.has.ensures ∙ ap (has fought) c.marks.ensures.is ∙ sym (cannot_mark _ _ (holds (c.may_attack.ensures ∙ ap may_attack c.kind.ensures.is) c.if-not-may_attack.false))
