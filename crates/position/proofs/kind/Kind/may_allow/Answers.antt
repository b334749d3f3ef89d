-- `Kind::may_allow` meets its contract: the table of types, test by test.
-- Assumes nothing.
use borrow.Author.Tests.{eq-eqb, ne_eqb, le-leb, lt-leb}
use Rattle.position.proofs.KindTests.{may_allow_lem}
use Rattle.position.proofs.kind.Kind.may_allow.Goals as goal

pub returns-then-k-eq-SUPPLY : goal.returns-then-k-eq-SUPPLY
returns-then-k-eq-SUPPLY c = let a = c.args in simp (eq-eqb _ _ c.if-k-eq-SUPPLY.true) at (may_allow_lem a.self.0 a.allowance)

pub returns-then-k-le-SPECIAL : goal.returns-then-k-le-SPECIAL
returns-then-k-le-SPECIAL c =
    let a = c.args in
    simp (ne_eqb _ _ c.if-k-eq-SUPPLY.false, le-leb _ _ c.if-k-le-SPECIAL.true) at (may_allow_lem a.self.0 a.allowance)

pub returns : goal.returns
returns c =
    let a = c.args in
    simp (ne_eqb _ _ c.if-k-eq-SUPPLY.false, lt-leb _ _ c.if-k-le-SPECIAL.false) at (may_allow_lem a.self.0 a.allowance)
