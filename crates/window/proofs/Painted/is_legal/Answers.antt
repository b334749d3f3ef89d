-- `Painted::is_legal` meets its contract. The loop's invariant: what is left of the test is the test of what is left of the route.
-- Assumes nothing.
use mathlib.Core.Path.{sym, refl}
use native.Mathlib.Omega.{arith}
use Rattle.routes.proofs.Legal.{wrong_length, right_length, all_passed, stopped, passed}
use Rattle.window.proofs.Painted.is_legal.Goals as goal

pub returns-then-route-n : goal.returns-then-route-n
returns-then-route-n c = sym (wrong_length _ _ _ _ _ c.if-route-n.true)

pub loop-i-init : goal.loop-i-init
loop-i-init c = record { is = right_length _ _ _ _ _ c.if-route-n.false }

pub returns-then-not-steps_to : goal.returns-then-not-steps_to
returns-then-not-steps_to c =
    sym (stopped c.loop-i.invariant (omega arith) refl c.steps_to.ensures c.if-not-steps_to.true)

pub loop-i-preserved : goal.loop-i-preserved
loop-i-preserved c =
    passed c.loop-i.invariant (omega arith) refl c.steps_to.ensures c.if-not-steps_to.false

pub returns : goal.returns
returns c = sym (all_passed c.loop-i.invariant (omega arith))
