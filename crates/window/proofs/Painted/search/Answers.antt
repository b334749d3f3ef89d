-- `Painted::search` meets its contract: at each turn of a loop the answer is what is still ahead (Ahead.antt).
-- The measures are how many directions are left.
-- Assumes nothing.
use native.Mathlib.Omega.{arith}
use Rattle.routes.proofs.Ahead.{begins, none, reached, inward, outward, done}
use Rattle.window.proofs.Painted.search.Goals as goal

pub search-init : goal.search-init
search-init c = begins _ _ _ _ (omega arith)

pub search-preserved-in_default : goal.search-preserved-in_default
search-preserved-in_default c = none c.search.invariant c.search-test.true c.step.ensures c.in_default.is

pub loop-d2-init : goal.loop-d2-init
loop-d2-init c = inward c.search.invariant c.search-test.true c.step.ensures c.in-Some.is (omega arith)

pub loop-d2-preserved-in_default-step : goal.loop-d2-preserved-in_default-step
loop-d2-preserved-in_default-step c = none c.loop-d2.invariant c.loop-d2-test.true c.step-in-loop-d2.ensures c.in_default-step.is

pub loop-d3-init : goal.loop-d3-init
loop-d3-init c = inward c.loop-d2.invariant c.loop-d2-test.true c.step-in-loop-d2.ensures c.in-Some-step.is (omega arith)

pub loop-d3-preserved : goal.loop-d3-preserved
loop-d3-preserved c = none c.loop-d3.invariant (omega arith) c.step-in-loop-d3.ensures c.in_default-step-2.is

pub loop-d2-preserved : goal.loop-d2-preserved
loop-d2-preserved c = outward _ c.loop-d3.invariant c.loop-d3-test.false

pub search-preserved : goal.search-preserved
search-preserved c = outward _ c.loop-d2.invariant c.loop-d2-test.false

pub returns-after-search : goal.returns-after-search
returns-after-search c = done c.search.invariant c.search-test.false

pub returns-then-n-eq1 : goal.returns-then-n-eq1
returns-then-n-eq1 c = reached c.search.invariant c.search-test.true c.step.ensures c.in-Some.is (omega arith)

pub returns-then-n-eq2 : goal.returns-then-n-eq2
returns-then-n-eq2 c = reached c.loop-d2.invariant c.loop-d2-test.true c.step-in-loop-d2.ensures c.in-Some-step.is (omega arith)

pub returns-in-Some-step-2 : goal.returns-in-Some-step-2
returns-in-Some-step-2 c = reached c.loop-d3.invariant (omega arith) c.step-in-loop-d3.ensures c.in-Some-step-2.is (omega (arith, c.requires.1))
