-- `Kind::may_belong` meets its contract: the table of types, test by test.
-- Assumes nothing.
use Prim.Native.Nat.{ℕ}
use mathlib.Core.Path.{ap, ◌∙◌}
use lib.Dec.{eqb}
use borrow.Author.Tests.{eq-eqb, ne_eqb, le-leb, lt-leb}
use Rattle.position.proofs.KindTests.{may_belong_lem}
use Rattle.position.proofs.kind.Kind.may_belong.Goals as goal

pub returns-then-k-eq-MILITIA : goal.returns-then-k-eq-MILITIA
returns-then-k-eq-MILITIA c =
    let a = c.args in
    ap (λ (f : ℕ). eqb f 3) c.force.ensures ∙ simp (eq-eqb _ _ c.if-k-eq-MILITIA.true) at (may_belong_lem a.self.0 a.nationality)

pub returns-then-k-eq-SPECIAL : goal.returns-then-k-eq-SPECIAL
returns-then-k-eq-SPECIAL c =
    let a = c.args in
    simp (ne_eqb _ _ c.if-k-eq-MILITIA.false, eq-eqb _ _ c.if-k-eq-SPECIAL.true) at (may_belong_lem a.self.0 a.nationality)

pub returns-then-k-eq-SUPPLY : goal.returns-then-k-eq-SUPPLY
returns-then-k-eq-SUPPLY c =
    let a = c.args in
    let mi = ne_eqb a.self.0 3 c.if-k-eq-MILITIA.false in
    let sp = ne_eqb a.self.0 4 c.if-k-eq-SPECIAL.false in
    simp (mi, sp, eq-eqb a.self.0 5 c.if-k-eq-SUPPLY.true) at (may_belong_lem a.self.0 a.nationality)

pub returns-then-k-le-INFANTRY : goal.returns-then-k-le-INFANTRY
returns-then-k-le-INFANTRY c =
    let a = c.args in
    let mi = ne_eqb a.self.0 3 c.if-k-eq-MILITIA.false in
    let sp = ne_eqb a.self.0 4 c.if-k-eq-SPECIAL.false in
    let su = ne_eqb a.self.0 5 c.if-k-eq-SUPPLY.false in
    simp (mi, sp, su, le-leb a.self.0 2 c.if-k-le-INFANTRY.true) at (may_belong_lem a.self.0 a.nationality)

pub returns : goal.returns
returns c =
    let a = c.args in
    let mi = ne_eqb a.self.0 3 c.if-k-eq-MILITIA.false in
    let sp = ne_eqb a.self.0 4 c.if-k-eq-SPECIAL.false in
    let su = ne_eqb a.self.0 5 c.if-k-eq-SUPPLY.false in
    simp (mi, sp, su, lt-leb a.self.0 2 c.if-k-le-INFANTRY.false) at (may_belong_lem a.self.0 a.nationality)
