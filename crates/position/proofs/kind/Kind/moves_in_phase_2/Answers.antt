-- `Kind::moves_in_phase_2` meets its contract: the table of types, as a test.
-- Assumes nothing.
use Rattle.position.proofs.KindTests.{moves_in_phase_2}
use Rattle.position.proofs.kind.Kind.moves_in_phase_2.Goals as goal

pub returns : goal.returns
returns c = moves_in_phase_2 _
