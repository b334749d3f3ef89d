-- `referee::pack_moved` meets its contract: the variant that was matched is the answer.
-- Assumes nothing.
use mathlib.Core.Path.{sym, ap, ◌∙◌}
use Rattle.march.specs.Answers.{moved_as}
use Rattle.march.specs.declared.Moved.{Moved}
use Rattle.ruling.specs.Packed.{packed, values_of}
use Rattle.packing.proofs.pack_moved.Goals as goal

pub returns-in-Done : goal.returns-in-Done
unfolding packed values_of
returns-in-Done c = sym (ap (λ (a : Moved). packed (moved_as a)) c.in-Done.is)

pub returns-in-Refused : goal.returns-in-Refused
unfolding packed values_of
returns-in-Refused c = c.refused.ensures ∙ sym (ap (λ (a : Moved). packed (moved_as a)) c.in-Refused.is)
