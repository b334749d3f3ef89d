-- `Kind::moves_by_land` meets its contract: the table of types, as a test.
-- Assumes nothing.
use Rattle.position.proofs.KindTests.{moves_by_land_lem}
use Rattle.position.proofs.kind.Kind.moves_by_land.Goals as goal

pub returns : goal.returns
returns c = moves_by_land_lem _
