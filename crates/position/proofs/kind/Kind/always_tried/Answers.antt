-- `Kind::always_tried` meets its contract: the table of types, as two tests.
-- Assumes nothing.
use borrow.Author.Tests.{eq-eqb, ne_eqb}
use Rattle.position.proofs.KindTests.{always_tried_lem}
use Rattle.position.proofs.kind.Kind.always_tried.Goals as goal

pub returns-then-k-eq-SPECIAL : goal.returns-then-k-eq-SPECIAL
returns-then-k-eq-SPECIAL c = simp (eq-eqb _ _ c.if-k-eq-SPECIAL.true) at (always_tried_lem c.args.self.0)

pub returns : goal.returns
returns c = simp (ne_eqb _ _ c.if-k-eq-SPECIAL.false) at (always_tried_lem c.args.self.0)
