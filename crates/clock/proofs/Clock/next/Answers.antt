-- `Clock::next` is the next clock: each of its three answers by the tests that lead there.
-- Assumes nothing.
use borrow.Author.Tests.{eq-eqb, ne_eqb}
use Rattle.clock.specs.Phase as Phase
use Rattle.clock.specs.Clock.{last_force, next_clock}
use Rattle.clock.proofs.Clock.next.Goals as goal

pub returns-then-phase-ne-LAST : goal.returns-then-phase-ne-LAST
unfolding next_clock
returns-then-phase-ne-LAST c = simp (ne_eqb c.args.self.phase Phase.last c.if-phase-ne-LAST.true)

pub returns-then-force-ne-LAST_FORCE : goal.returns-then-force-ne-LAST_FORCE
unfolding next_clock
returns-then-force-ne-LAST_FORCE c =
    let s = c.args.self in
    simp (eq-eqb s.phase Phase.last c.if-phase-ne-LAST.false, ne_eqb s.force last_force c.if-force-ne-LAST_FORCE.true)

pub returns : goal.returns
unfolding next_clock
returns c =
    let s = c.args.self in
    simp (eq-eqb s.phase Phase.last c.if-phase-ne-LAST.false, eq-eqb s.force last_force c.if-force-ne-LAST_FORCE.false)
