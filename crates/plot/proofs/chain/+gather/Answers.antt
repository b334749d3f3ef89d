-- `plot::chain::gather` meets its contract.
use Rattle.std.proofs.Common.{refl, sym, ◌∙◌}
use native.Mathlib.Omega.{arith}
use Rattle.plot.proofs.Plots.{next_below}
use Rattle.plot.proofs.Trails.{one_left, push_uses}
use Rattle.plot.proofs.Ends.{close_more, close_step, ends_rest, ends_via, marks_as, marks_left}
use Rattle.plot.proofs.Ends.{upto_all, upto_ends, upto_held, upto_none, upto_skip, via_off}
use Rattle.plot.proofs.chain.+gather.Goals as goal

pub has_rest-requires : goal.has_rest-requires
has_rest-requires t c = (c.requires.0, c.requires.5.below)

pub mark_rests-requires : goal.mark_rests-requires
mark_rests-requires t c = let p = c.requires in (p.0, p.1, p.2, close_more 2 (omega arith) p.5)

pub returns-then-has_rest : goal.returns-then-has_rest
returns-then-has_rest t c =
    marks_as (λ y k. ends_rest _ _ _ _ _ y (one_left c.requires.3) (sym c.has_rest.ensures ∙ c.if-has_rest.true)) c.mark_rests.ensures

pub longer-used-requires : goal.longer-used-requires
longer-used-requires t c = let p = c.requires in (p.4, omega arith, p.5.below)

pub loop-d-init : goal.loop-d-init
loop-d-init t c = (omega arith, upto_none _)

pub next_in-requires : goal.next_in-requires
next_in-requires t c = let p = c.requires in (p.0, p.5.below, omega arith)

pub loop-d-preserved-in_default : goal.loop-d-preserved-in_default
loop-d-preserved-in_default t c = (
  omega arith,
  upto_skip _ c.loop-d.invariant.1 (via_off _ _ _ _ _ _ (sym c.next_in.ensures ∙ c.in_default.is)),
)

pub yields-requires : goal.yields-requires
yields-requires t c = (c.requires.0, next_below _ _ _ _ (sym c.next_in.ensures ∙ c.in-Some.is))

pub loop-d-preserved-then-not-yields : goal.loop-d-preserved-then-not-yields
loop-d-preserved-then-not-yields t c = (
  omega arith,
  upto_held _ _ _ _ _ _ (sym c.next_in.ensures ∙ c.in-Some.is) _ c.loop-d.invariant.1 (sym c.yields.ensures ∙ c.if-not-yields.true) refl,
)

pub mark_last-requires : goal.mark_last-requires
mark_last-requires t c = let p = c.requires in (
  p.0,
  c.loop-d.invariant.1.long ∙ p.1,
  p.2,
  close_more 2 (omega (arith, p.4.few)) (close_step _ _ _ _ (sym c.next_in.ensures ∙ c.in-Some.is) p.5),
)

pub loop-d-preserved-then-left-lt3 : goal.loop-d-preserved-then-left-lt3
loop-d-preserved-then-left-lt3 t c = (
  omega arith,
  upto_ends _ _ _ _ _ _ (sym c.next_in.ensures ∙ c.in-Some.is) _ _ c.loop-d.invariant.1 (sym c.yields.ensures ∙ c.if-not-yields.false) c.longer-used.ensures.0 (marks_left _ _ _ _ (omega
      arith) c.mark_last.ensures),
)

-- the place that the chain goes into is used then
pub gather-requires : goal.gather-requires
gather-requires t c =
    let q = c.requires in
    let used = c.longer-used.ensures in
    let step = sym c.next_in.ensures ∙ c.in-Some.is in
    let loose = sym c.yields.ensures ∙ c.if-not-yields.false in
    let pushed = push_uses _ _ used.0 (next_below _ _ _ _ step) loose in
    let long = c.loop-d.invariant.1.long in
    let close = close_step _ _ _ _ step q.5 in
    (omega (arith, c.decreases, pushed), (q.0, long ∙ q.1, q.2, omega arith, used.1, close_more _ (omega (arith, q.4.few)) close))

pub loop-d-preserved : goal.loop-d-preserved
loop-d-preserved t c = (
  omega arith,
  upto_ends _ _ _ _ _ _ (sym c.next_in.ensures ∙ c.in-Some.is) _ _ c.loop-d.invariant.1 (sym c.yields.ensures ∙ c.if-not-yields.false) c.longer-used.ensures.0 c.gather.ensures,
)

pub returns : goal.returns
returns t c =
    upto_all _ (omega arith) (omega arith) (λ y. ends_via _ _ _ _ _ y (one_left c.requires.3) (sym c.has_rest.ensures ∙ c.if-has_rest.false)) c.loop-d.invariant.1
