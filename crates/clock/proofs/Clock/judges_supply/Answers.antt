-- `Clock::judges_supply` is the test for a phase in which supply is judged: that of land movement first, then the mechanised one.
-- Assumes nothing.
use borrow.Author.Tests.{eq-eqb, ne_eqb}
use Rattle.clock.specs.Phase as Phase
use Rattle.clock.specs.Clock.{judges_supply}
use Rattle.clock.proofs.Clock.judges_supply.Goals as goal

pub returns-then-phase-eq-LAND : goal.returns-then-phase-eq-LAND
unfolding judges_supply
returns-then-phase-eq-LAND c = simp (eq-eqb c.args.self.phase Phase.land c.if-phase-eq-LAND.true)

pub returns : goal.returns
unfolding judges_supply
returns c = simp (ne_eqb c.args.self.phase Phase.land c.if-phase-eq-LAND.false)
