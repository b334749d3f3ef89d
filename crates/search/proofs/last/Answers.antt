-- `plot::search::last` meets its contract.
-- Assumes nothing.
use mathlib.Core.Path.{refl, sym, ◌∙◌}
use native.Mathlib.Omega.{arith}
use Rattle.position.proofs.Tallies.{any_zero}
use Rattle.plot.proofs.Plots.{next_below}
use Rattle.plot.proofs.Searching.{served, unserved, unserved_off, unserved_over}
use Rattle.search.proofs.last.Goals as goal

pub loop-d-init : goal.loop-d-init
loop-d-init c = record { same = refl; most = omega arith; none = any_zero _ }

pub next_in-requires : goal.next_in-requires
next_in-requires c = (c.requires.0, c.requires.2, omega arith)

pub loop-d-preserved-in_default : goal.loop-d-preserved-in_default
loop-d-preserved-in_default c = unserved_off c.loop-d.invariant (omega arith) (sym c.next_in.ensures ∙ c.in_default.is)

pub last_over-requires : goal.last_over-requires
last_over-requires c = let p = c.requires in (
  p.0,
  p.1,
  p.2,
  next_below _ _ _ _
      (sym c.next_in.ensures ∙ c.in-Some.is),
  p.3,
)

pub returns-then-last_over : goal.returns-then-last_over
returns-then-last_over c = sym (served c.loop-d.invariant (λ e. omega arith) (omega arith) (sym c.next_in.ensures ∙ c.in-Some.is) (sym c.last_over.ensures ∙ c.if-last_over.true))

pub loop-d-preserved : goal.loop-d-preserved
loop-d-preserved c = unserved_over c.loop-d.invariant (omega arith) (sym c.next_in.ensures ∙ c.in-Some.is) (sym c.last_over.ensures ∙ c.if-last_over.false) refl

pub returns : goal.returns
returns c = sym (unserved c.loop-d.invariant (λ e. omega arith) (omega arith))
