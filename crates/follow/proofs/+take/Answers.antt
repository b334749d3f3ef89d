-- `plot::follow::take` meets its contract.
use Rattle.std.proofs.Common.{sym, ◌∙◌}
use native.Mathlib.Omega.{arith}
use Rattle.plot.proofs.Trails.{push_uses}
use Rattle.plot.proofs.Taking.{led_below, took_apart, took_firm, took_last, took_none, took_on, took_rest, took_shy}
use Rattle.follow.proofs.+take.Goals as goal

pub returns-then-pushes-k : goal.returns-then-pushes-k
returns-then-pushes-k t c = took_none (omega arith)

pub returns-then-not-leads : goal.returns-then-not-leads
returns-then-not-leads t c = took_apart (omega arith) c.place_in-z.ensures (sym c.leads.ensures ∙ c.if-not-leads.true)

pub rests-requires : goal.rests-requires
rests-requires t c = (c.requires.0, led_below _ _ _ (sym c.leads.ensures ∙ c.if-not-leads.false))

pub returns-then-rests : goal.returns-then-rests
returns-then-rests t c =
    took_rest (omega arith) c.place_in-z.ensures c.requires.3 (sym c.leads.ensures ∙ c.if-not-leads.false) (sym c.rests.ensures ∙ c.if-rests.true)

pub returns-then-left-lt2 : goal.returns-then-left-lt2
returns-then-left-lt2 t c =
    took_last (omega arith) c.place_in-z.ensures c.requires.3 c.if-left-lt2.true (sym c.leads.ensures ∙ c.if-not-leads.false)
    (sym c.rests.ensures ∙ c.if-rests.false)

pub returns-then-has_rest : goal.returns-then-has_rest
returns-then-has_rest t c =
    took_shy (omega arith) c.place_in-z.ensures (sym c.leads.ensures ∙ c.if-not-leads.false) (sym c.rests.ensures ∙ c.if-rests.false)
    (sym c.has_rest.ensures ∙ c.if-has_rest.true)

pub yields-requires : goal.yields-requires
yields-requires t c = (c.requires.0, led_below _ _ _ (sym c.leads.ensures ∙ c.if-not-leads.false))

pub returns-then-not-yields : goal.returns-then-not-yields
returns-then-not-yields t c =
    took_firm (omega arith) c.place_in-z.ensures (sym c.leads.ensures ∙ c.if-not-leads.false) (sym c.rests.ensures ∙ c.if-rests.false)
    (sym c.has_rest.ensures ∙ c.if-has_rest.false) (sym c.yields.ensures ∙ c.if-not-yields.true)

-- the place that the chain goes into is used then
pub take-requires : goal.take-requires
take-requires t c =
    let q = c.requires in
    let used = c.longer.ensures in
    let below = led_below _ _ _ (sym c.leads.ensures ∙ c.if-not-leads.false) in
    let pushed = push_uses _ _ used.0 below (sym c.yields.ensures ∙ c.if-not-yields.false) in
    (omega (arith, c.decreases, pushed), (q.0, q.1, used.1, omega arith, below, omega arith))

pub returns : goal.returns
returns t c =
    took_on (omega arith) c.place_in-z.ensures c.requires.3 (sym c.leads.ensures ∙ c.if-not-leads.false) (sym c.rests.ensures ∙ c.if-rests.false)
    (sym c.has_rest.ensures ∙ c.if-has_rest.false) (sym c.yields.ensures ∙ c.if-not-yields.false) c.longer.ensures.0 c.take.ensures
