-- `plot::chain::can_end` meets its contract.
use Rattle.std.proofs.Common.{sym, ◌∙◌}
use native.Mathlib.Omega.{arith}
use Rattle.plot.proofs.Plots.{next_below}
use Rattle.plot.proofs.Trails.{one_left, push_uses}
use Rattle.plot.proofs.Ending.{can_none, can_rest, can_via, endless, endless_first, endless_held, endless_off, endless_via}
use Rattle.plot.proofs.chain.+can_end.Goals as goal

pub has_rest-requires : goal.has_rest-requires
has_rest-requires t c = (c.requires.0, c.requires.3)

pub returns-then-has_rest : goal.returns-then-has_rest
returns-then-has_rest t c = sym (can_rest _ _ _ _ (one_left c.requires.1) (sym c.has_rest.ensures ∙ c.if-has_rest.true))

pub longer-used-requires : goal.longer-used-requires
longer-used-requires t c = let p = c.requires in (p.2, omega arith, p.3)

pub loop-d-init : goal.loop-d-init
loop-d-init t c = endless_first

pub next_in-requires : goal.next_in-requires
next_in-requires t c = let p = c.requires in (p.0, p.3, omega arith)

pub loop-d-preserved-in_default : goal.loop-d-preserved-in_default
loop-d-preserved-in_default t c = endless_off c.loop-d.invariant (sym c.next_in.ensures ∙ c.in_default.is)

pub yields-requires : goal.yields-requires
yields-requires t c = (c.requires.0, next_below _ _ _ _ (sym c.next_in.ensures ∙ c.in-Some.is))

pub loop-d-preserved-then-not-yields : goal.loop-d-preserved-then-not-yields
loop-d-preserved-then-not-yields t c =
    endless_held c.loop-d.invariant _ (sym c.next_in.ensures ∙ c.in-Some.is) (sym c.yields.ensures ∙ c.if-not-yields.true)

pub has_rest-requires-then-left-lt3 : goal.has_rest-requires-then-left-lt3
has_rest-requires-then-left-lt3 t c = (c.requires.0, next_below _ _ _ _ (sym c.next_in.ensures ∙ c.in-Some.is))

pub returns-then-has_rest-2 : goal.returns-then-has_rest-2
returns-then-has_rest-2 t c = sym
    (can_via _ _ _ _ (one_left c.requires.1) _ _ (omega arith) (sym c.next_in.ensures ∙ c.in-Some.is)
    (sym c.has_rest.ensures ∙ c.if-has_rest.false) (sym c.yields.ensures ∙ c.if-not-yields.false) _ c.longer-used.ensures.0
    (can_rest _ _ _ _ (omega arith) (sym c.has_rest-then-left-lt3.ensures ∙ c.if-has_rest-2.true)))

pub loop-d-preserved-then-left-lt3 : goal.loop-d-preserved-then-left-lt3
loop-d-preserved-then-left-lt3 t c =
    endless_via c.loop-d.invariant _ (sym c.next_in.ensures ∙ c.in-Some.is) _ c.longer-used.ensures.0
    (can_none _ _ _ _ (omega arith) (omega arith) (sym c.has_rest-then-left-lt3.ensures ∙ c.if-has_rest-2.false))

-- the place that the chain goes into is used then
pub can_end-requires : goal.can_end-requires
can_end-requires t c =
    let p = c.requires in
    let used = c.longer-used.ensures in
    let below = next_below _ _ _ _ (sym c.next_in.ensures ∙ c.in-Some.is) in
    let pushed = push_uses _ _ used.0 below (sym c.yields.ensures ∙ c.if-not-yields.false) in
    (omega (arith, c.decreases, pushed), (p.0, omega arith, used.1, below))

pub returns-then-can_end : goal.returns-then-can_end
returns-then-can_end t c = sym
    (can_via _ _ _ _ (one_left c.requires.1) _ _ (omega arith) (sym c.next_in.ensures ∙ c.in-Some.is)
    (sym c.has_rest.ensures ∙ c.if-has_rest.false) (sym c.yields.ensures ∙ c.if-not-yields.false) _ c.longer-used.ensures.0
    (sym c.can_end.ensures ∙ c.if-can_end.true))

pub loop-d-preserved : goal.loop-d-preserved
loop-d-preserved t c =
    endless_via c.loop-d.invariant _ (sym c.next_in.ensures ∙ c.in-Some.is) _ c.longer-used.ensures.0 (sym c.can_end.ensures ∙ c.if-can_end.false)

pub returns : goal.returns
returns t c = sym
    (endless c.loop-d.invariant (one_left c.requires.1) (omega arith) (sym c.has_rest.ensures ∙ c.if-has_rest.false))
