-- `step` meets its contract: with a hex to enter it goes down, without one it goes home or is over.
-- Assumes nothing.
use Rattle.std.specs.Prelude.{ℕ, Option, ◌≡◌}
use mathlib.Core.Path.{◌∙◌, subst}
use native.Mathlib.Omega.{arith}
use Rattle.walk.specs.Trail.{FirstOf}
use Rattle.position.proofs.Sides.{beside_view, area_view}
use Rattle.position.specs.Board.{ground}
use Rattle.position.specs.Ground.{next}
use Rattle.walk.specs.Chain.{mark}
use Rattle.walk.proofs.Steps.{two_way}
use Rattle.walk.proofs.Goings.{steps_home, steps_in}
use Rattle.walking.proofs.step.step.Goals as goal

-- what was found, or that nothing was
looked :
    (next : ℕ → ℕ → Option ℕ) (f : ℕ → ℕ) (m a c : ℕ) {r d : Option ℕ} → FirstOf next f m a c r → r ≡ d → FirstOf next f m a c d
looked next f m a c o e = subst (FirstOf next f m a c) e o

pub enter-requires : goal.enter-requires
enter-requires c =
    record { spot_of = (c.requires.laid.1, (looked (next (ground c.args.p.now)) (mark c.args.buf.now) 1 c.args.s.hex c.args.from c.look.ensures c.in-Some.is).1); buf_len = c.requires.buf_len ∙ area_view c.requires.laid.0.view }

pub returns-in-Some : goal.returns-in-Some
returns-in-Some c =
    let o = looked (next (ground c.args.p.now)) (mark c.args.buf.now) 1 c.args.s.hex c.args.from c.look.ensures c.in-Some.is in
    let t = c.enter in
    steps_in (two_way (ground c.args.p.now)) c.args.v.width c.args.v.height (beside_view c.requires.laid.0.view)
    c.args.buf.now c.args.s.hex c.args.from c.in-Some.dir o.0
    t.new.buf t.result o.1 t.ensures

pub returns-in_default : goal.returns-in_default
returns-in_default c =
    let o = looked (next (ground c.args.p.now)) (mark c.args.buf.now) 1 c.args.s.hex c.args.from c.look.ensures c.in_default.is in
    let t = c.leave in
    steps_home (two_way (ground c.args.p.now)) c.args.v.width c.args.v.height (beside_view c.requires.laid.0.view)
    c.args.buf.now c.args.s.hex c.args.from 6 o
    t.new.buf t.result (omega arith) t.ensures.home_of t.ensures.buf_after
