-- `kind::force` meets its contract.
-- Assumes nothing.
use borrow.Author.Tests.{eq-eqb, ne_eqb}
use Rattle.position.specs.Kind.{force}
use Rattle.position.proofs.kind.force.Goals as goal

pub returns-then-nationality-eq-CANADA : goal.returns-then-nationality-eq-CANADA
unfolding force
returns-then-nationality-eq-CANADA c = simp (eq-eqb _ _ c.if-nationality-eq-CANADA.true)

pub returns : goal.returns
unfolding force
returns c = simp (ne_eqb _ _ c.if-nationality-eq-CANADA.false)
