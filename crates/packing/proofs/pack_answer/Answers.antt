-- `packing::pack_answer` meets its contract: the variant that was matched is the answer.
-- Assumes nothing.
use mathlib.Core.Path.{sym, ap, ◌∙◌}
use Rattle.ruling.specs.Answers.{answer_as}
use Rattle.std.specs.Prelude.{Result}
use Rattle.ruling.specs.declared.refusal.Refusal.{Refusal}
use Rattle.ruling.specs.Packed.{packed, values_of}
use Rattle.packing.proofs.pack_answer.Goals as goal

pub returns-in-Ok : goal.returns-in-Ok
unfolding packed values_of
returns-in-Ok c = sym (ap (λ (a : Result (Unit {0}) Refusal). packed (answer_as a)) c.in-Ok.is)

pub returns-in-Err : goal.returns-in-Err
unfolding packed values_of
returns-in-Err c = c.refused.ensures ∙ sym (ap (λ (a : Result (Unit {0}) Refusal). packed (answer_as a)) c.in-Err.is)
