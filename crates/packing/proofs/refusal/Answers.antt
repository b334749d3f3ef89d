-- `packing::refusal` meets its contract.
-- Assumes nothing.
use mathlib.Core.Path.{refl}
use Rattle.ruling.specs.Packed.{refusal_of}
use Rattle.packing.proofs.refusal.Goals as goal

pub returns : goal.returns
unfolding refusal_of
returns c = refl
