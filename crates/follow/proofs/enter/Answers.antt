-- `plot::follow::enter` meets its contract.
-- Assumes nothing.
use mathlib.Core.Path.{sym, ◌∙◌}
use native.Mathlib.Omega.{arith}
use Rattle.plot.proofs.Searching.{on_plot}
use Rattle.plot.proofs.Taking.{led_below}
use Rattle.plot.proofs.Following.{stepped_apart, stepped_far, stepped_free, stepped_loose, stepped_shut}
use Rattle.follow.proofs.enter.Goals as goal

pub returns-then-not-leads : goal.returns-then-not-leads
returns-then-not-leads c = stepped_apart (sym c.leads.ensures ∙ c.if-not-leads.true)

pub distance-far-requires : goal.distance-far-requires
distance-far-requires c = record {
  on = on_plot _ c.requires.2;
  on_2 = on_plot _ (led_below _ _ _ (sym c.leads.ensures ∙ c.if-not-leads.false));
}

pub returns-then-far-eq0 : goal.returns-then-far-eq0
returns-then-far-eq0 c = stepped_far (λ e. omega (arith, e, c.distance-far.ensures))

pub returns-then-far-i : goal.returns-then-far-i
returns-then-far-i c = stepped_far (λ e. omega (arith, e, c.distance-far.ensures))

pub stand_in-requires : goal.stand_in-requires
stand_in-requires c = (c.requires.0, led_below _ _ _ (sym c.leads.ensures ∙ c.if-not-leads.false))

pub push_out-requires : goal.push_out-requires
push_out-requires c =
    let p = c.requires in
    (p.0, p.1, p.3, led_below _ _ _ (sym c.leads.ensures ∙ c.if-not-leads.false), p.4)

pub returns-in-Shut : goal.returns-in-Shut
returns-in-Shut c =
    stepped_shut (sym c.leads.ensures ∙ c.if-not-leads.false) (sym c.distance-far.ensures ∙ omega arith)
    (sym c.stand_in.ensures ∙ c.in-Shut.is)

pub returns-in-Free : goal.returns-in-Free
returns-in-Free c =
    stepped_free (sym c.leads.ensures ∙ c.if-not-leads.false) (sym c.distance-far.ensures ∙ omega arith)
    (sym c.stand_in.ensures ∙ c.in-Free.is) c.requires.4

pub returns-in-Loose : goal.returns-in-Loose
returns-in-Loose c =
    stepped_loose (sym c.leads.ensures ∙ c.if-not-leads.false) (sym c.distance-far.ensures ∙ omega arith) _
    (sym c.stand_in.ensures ∙ c.in-Loose.is) c.requires.0 c.push_out.ensures
