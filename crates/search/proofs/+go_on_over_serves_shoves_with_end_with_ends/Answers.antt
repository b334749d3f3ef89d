-- The cycle of calls {go_on, over, serves, shoves, with_end, with_ends} meets its contracts.
use Rattle.std.proofs.Common.{refl, sym, ap, ◌∙◌, length}
use native.Mathlib.Omega.{arith}
use Rattle.position.proofs.Tallies.{any_zero}
use Rattle.plot.proofs.Plots.{next_below, shifted_long}
use Rattle.plot.proofs.Ends.{close_self}
use Rattle.plot.proofs.Searching.{blank, gathered, on_plot}
use Rattle.plot.proofs.Searching.{over_far, over_free, over_loose, over_shut, served, serves_done, serves_last, put_back, shoved}
use Rattle.plot.proofs.Searching.{unended, unended_not, unended_with, unserved, unserved_off, unserved_over}
use Rattle.search.proofs.+go_on_over_serves_shoves_with_end_with_ends.Goals as goal

pub go_on-returns-then-k-eq0 : goal.go_on-returns-then-k-eq0
go_on-returns-then-k-eq0 t c = (sym (serves_done _ _ _ _ _ c.if-k-eq0.true), refl)

pub go_on-last-requires : goal.go_on-last-requires
go_on-last-requires t c = let p = c.requires in (p.0, p.1, p.2, omega arith)

pub go_on-returns-then-k-eq1 : goal.go_on-returns-then-k-eq1
go_on-returns-then-k-eq1 t c = (c.last.ensures ∙ serves_last _ _ _ _ _ c.if-k-eq1.true, refl)

pub go_on-serves-requires : goal.go_on-serves-requires
go_on-serves-requires t c = let p = c.requires in (omega arith, (p.0, p.1, p.2, p.3, omega arith))

pub over-distance-requires : goal.over-distance-requires
over-distance-requires t c = record { on = on_plot _ c.requires.1; on_2 = on_plot _ c.requires.3 }

pub over-returns-then-distance-i : goal.over-returns-then-distance-i
over-returns-then-distance-i t c = (sym (over_far _ _ _ _ _ _ (λ e. c.if-distance-i.true (c.distance.ensures ∙ e))), refl)

pub over-stand_in-requires : goal.over-stand_in-requires
over-stand_in-requires t c = (c.requires.0, c.requires.3)

pub over-go_on-requires : goal.over-go_on-requires
over-go_on-requires t c = let p = c.requires in (omega arith, (p.0, p.1, p.3, omega arith))

pub over-shoves-requires : goal.over-shoves-requires
over-shoves-requires t c = (omega arith, c.requires)

pub over-returns-in-Shut : goal.over-returns-in-Shut
over-returns-in-Shut t c = (
  sym (over_shut _ _ _ _ _ _ (sym c.distance.ensures ∙ c.if-distance-i.false) (sym c.stand_in.ensures ∙ c.in-Shut.is)),
  refl,
)

pub over-returns-in-Free : goal.over-returns-in-Free
over-returns-in-Free t c = (
  c.go_on.ensures.0
      ∙ sym (over_free _ _ _ _ _ _ (sym c.distance.ensures ∙ c.if-distance-i.false) (sym c.stand_in.ensures ∙ c.in-Free.is)),
  c.go_on.ensures.1,
)

pub over-returns-in-Loose : goal.over-returns-in-Loose
over-returns-in-Loose t c = (
  c.shoves.ensures.0
      ∙ sym (over_loose _ _ _ _ _ _ (sym c.distance.ensures ∙ c.if-distance-i.false) (sym c.stand_in.ensures ∙ c.in-Loose.is)),
  c.shoves.ensures.1,
)

pub serves-loop-d-init : goal.serves-loop-d-init
serves-loop-d-init t c = record { same = refl; most = omega arith; none = any_zero _ }

pub serves-next_in-requires : goal.serves-next_in-requires
serves-next_in-requires t c = (ap length c.loop-d.invariant.same ∙ c.requires.0, c.requires.2, omega arith)

pub serves-loop-d-preserved-in_default : goal.serves-loop-d-preserved-in_default
serves-loop-d-preserved-in_default t c = unserved_off c.loop-d.invariant (omega arith) (sym c.next_in.ensures ∙ c.in_default.is)

pub serves-over-requires : goal.serves-over-requires
serves-over-requires t c = let p = c.requires in (
  omega arith,
  (
    ap length c.loop-d.invariant.same ∙ p.0,
    p.1,
    p.2,
    next_below _ _ _ _ (sym c.next_in.ensures ∙ c.in-Some.is),
    omega arith,
  ),
)

pub serves-returns-then-over : goal.serves-returns-then-over
serves-returns-then-over t c = (
  sym (served c.loop-d.invariant (λ e. omega (arith, e, c.requires.4)) (omega arith) (sym c.next_in.ensures ∙ c.in-Some.is) (sym c.over.ensures.0
      ∙ c.if-over.true)),
  c.over.ensures.1 ∙ c.loop-d.invariant.same,
)

pub serves-loop-d-preserved : goal.serves-loop-d-preserved
serves-loop-d-preserved t c =
    unserved_over c.loop-d.invariant (omega arith) (sym c.next_in.ensures ∙ c.in-Some.is) (sym c.over.ensures.0 ∙ c.if-over.false) c.over.ensures.1

pub serves-returns : goal.serves-returns
serves-returns t c = (
  sym (unserved c.loop-d.invariant (λ e. omega (arith, e, c.requires.4)) (omega arith)),
  c.loop-d.invariant.same,
)

pub shoves-with_ends-requires : goal.shoves-with_ends-requires
shoves-with_ends-requires t c = let p = c.requires in (omega arith, (p.0, blank, p.1, p.2, p.3, p.4))

pub with_end-shift-requires : goal.with_end-shift-requires
with_end-shift-requires t c = let p = c.requires in (p.0, p.2, p.3)

pub with_end-go_on-found-requires : goal.with_end-go_on-found-requires
with_end-go_on-found-requires t c = let p = c.requires in
    (omega arith, (ap length c.shift.ensures ∙ shifted_long _ _ _ ∙ p.0, p.1, p.2, omega arith))

pub with_end-returns : goal.with_end-returns
with_end-returns t c = (c.go_on-found.ensures.0 ∙ rw c.shift.ensures, put_back _ _ c.shift.ensures c.go_on-found.ensures.1)

pub with_ends-gather-requires : goal.with_ends-gather-requires
with_ends-gather-requires t c = let p = c.requires in (p.0, p.1.long, p.4, omega arith, c.own-own.ensures.1, close_self _ p.4)

pub with_ends-loop-y-init : goal.with_ends-loop-y-init
with_ends-loop-y-init t c = let p = c.requires in
    record {
      same = refl;
      long = p.0;
      inside = p.4;
      told = gathered _ c.own-own.ensures.0 c.gather.ensures p.1 p.4;
      most = omega arith;
      none = any_zero _;
    }

pub with_ends-ends_in-requires : goal.with_ends-ends_in-requires
with_ends-ends_in-requires t c = (c.gather.ensures.long ∙ c.requires.1.long, c.requires.4, omega arith)

pub with_ends-loop-y-preserved-then-not-ends_in : goal.with_ends-loop-y-preserved-then-not-ends_in
with_ends-loop-y-preserved-then-not-ends_in t c =
    unended_not c.loop-y.invariant (omega arith) (sym c.ends_in.ensures ∙ c.if-not-ends_in.true)

pub with_ends-with_end-requires : goal.with_ends-with_end-requires
with_ends-with_end-requires t c = let p = c.requires in (
  omega arith,
  (ap length c.loop-y.invariant.same ∙ p.0, p.2, p.4, omega arith, p.5),
)

pub with_ends-returns-then-with_end : goal.with_ends-returns-then-with_end
with_ends-returns-then-with_end t c = (
  sym (shoved c.loop-y.invariant (omega arith) (sym c.ends_in.ensures ∙ c.if-not-ends_in.false) (sym c.with_end.ensures.0 ∙ c.if-with_end.true)),
  c.with_end.ensures.1 ∙ c.loop-y.invariant.same,
)

pub with_ends-loop-y-preserved : goal.with_ends-loop-y-preserved
with_ends-loop-y-preserved t c =
    unended_with c.loop-y.invariant (omega arith) (sym c.ends_in.ensures ∙ c.if-not-ends_in.false)
    (sym c.with_end.ensures.0 ∙ c.if-with_end.false) c.with_end.ensures.1

pub with_ends-returns : goal.with_ends-returns
with_ends-returns t c = (sym (unended c.loop-y.invariant (omega arith)), c.loop-y.invariant.same)
