-- `Clock::is_last` is the test for the last phase of the last turn, part by part.
-- Assumes nothing.
use borrow.Author.Tests.{eq-eqb, ne_eqb}
use Rattle.clock.specs.Phase as Phase
use Rattle.clock.specs.Clock.{last_force, is_last}
use Rattle.clock.proofs.Clock.is_last.Goals as goal

pub returns-then-self-ne-LAST : goal.returns-then-self-ne-LAST
unfolding is_last
returns-then-self-ne-LAST c = simp (ne_eqb c.args.self.phase Phase.last c.if-self-ne-LAST.true)

pub returns-then-self-ne-LAST_FORCE : goal.returns-then-self-ne-LAST_FORCE
unfolding is_last
returns-then-self-ne-LAST_FORCE c =
    let s = c.args.self in
    simp (eq-eqb s.phase Phase.last c.if-self-ne-LAST.false, ne_eqb s.force last_force c.if-self-ne-LAST_FORCE.true)

pub returns : goal.returns
unfolding is_last
returns c =
    let s = c.args.self in
    simp (eq-eqb s.phase Phase.last c.if-self-ne-LAST.false, eq-eqb s.force last_force c.if-self-ne-LAST_FORCE.false)
