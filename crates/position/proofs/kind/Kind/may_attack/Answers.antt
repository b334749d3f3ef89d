-- `Kind::may_attack` meets its contract: the table of types, as a test.
-- Assumes nothing.
use Rattle.position.proofs.KindTests.{may_attack_lem}
use Rattle.position.proofs.kind.Kind.may_attack.Goals as goal

pub returns : goal.returns
returns c = may_attack_lem _
