-- `packing::refused` meets its contract: number and place are those of the rule.
-- Assumes nothing.
use mathlib.Core.Path.{ap₂, ◌∙◌}
use Rattle.ruling.specs.Packed.{refusal_of}
use Rattle.packing.proofs.refused.Goals as goal

pub returns : goal.returns
returns c = c.refusal.ensures ∙ ap₂ refusal_of c.number.ensures c.place.ensures
