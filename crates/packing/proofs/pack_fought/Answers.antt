-- `referee::pack_fought` meets its contract: the variant that was matched is the answer.
-- Assumes nothing.
use mathlib.Core.Path.{sym, ap, ◌∙◌}
use Rattle.battle.specs.Answers.{fought_as}
use Rattle.battle.specs.declared.Fought.{Fought}
use Rattle.ruling.specs.Packed.{packed, values_of}
use Rattle.packing.proofs.pack_fought.Goals as goal

pub returns-in-Done : goal.returns-in-Done
unfolding packed values_of
returns-in-Done c = sym (ap (λ (a : Fought). packed (fought_as a)) c.in-Done.is)

pub returns-in-Refused : goal.returns-in-Refused
unfolding packed values_of
returns-in-Refused c = c.refused.ensures ∙ sym (ap (λ (a : Fought). packed (fought_as a)) c.in-Refused.is)
