-- `routes_ok::link_ok` meets its contract: two numbers of the route are read, and the ground says whether they are joined.
-- Assumes nothing.
use mathlib.Core.Path.{ap₂, ◌∙◌}
use native.Mathlib.Omega.{arith}
use Rattle.position.specs.Board.{ground}
use Rattle.position.specs.Ground.{joined}
use Rattle.position.proofs.Answers.{holds, fails}
use Rattle.checking.proofs.routes_ok.link_ok.Goals as goal

pub returns-then-after-eq-NOWHERE : goal.returns-then-after-eq-NOWHERE
returns-then-after-eq-NOWHERE c = record { front = λ n. absurd (n (omega arith)); step = λ n. absurd (n (omega arith)) }

pub returns-then-here-eq-NOWHERE : goal.returns-then-here-eq-NOWHERE
returns-then-here-eq-NOWHERE c = λ t. t.front (λ e. omega arith) (omega arith)

pub returns-then-not-joined : goal.returns-then-not-joined
returns-then-not-joined c = λ t. fails (c.joined.ensures ∙ ap₂ (joined (ground c.args.p.now)) c.route-here.ensures.is
    c.route-after.ensures.is) c.if-not-joined.true (t.step (λ e. omega arith))

pub returns : goal.returns
returns c = record {
  front = λ n e. omega arith;
  step = λ n. holds (c.joined.ensures ∙ ap₂ (joined (ground c.args.p.now)) c.route-here.ensures.is
      c.route-after.ensures.is) c.if-not-joined.false;
}
