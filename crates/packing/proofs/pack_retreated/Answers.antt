-- `referee::pack_retreated` meets its contract: the variant that was matched is the answer.
-- Assumes nothing.
use mathlib.Core.Path.{sym, ap, ◌∙◌}
use Rattle.retreat.specs.Answers.{retreated_as}
use Rattle.retreat.specs.declared.Retreated.{Retreated}
use Rattle.ruling.specs.Packed.{packed, values_of}
use Rattle.packing.proofs.pack_retreated.Goals as goal

pub returns-in-To : goal.returns-in-To
unfolding packed values_of
returns-in-To c = sym (ap (λ (a : Retreated). packed (retreated_as a)) c.in-To.is)

pub returns-in-Destroyed : goal.returns-in-Destroyed
unfolding packed values_of
returns-in-Destroyed c = sym (ap (λ (a : Retreated). packed (retreated_as a)) c.in-Destroyed.is)

pub returns-in-Refused : goal.returns-in-Refused
unfolding packed values_of
returns-in-Refused c = c.refused.ensures ∙ sym (ap (λ (a : Retreated). packed (retreated_as a)) c.in-Refused.is)
