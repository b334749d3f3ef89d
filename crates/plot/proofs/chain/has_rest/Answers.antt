use Rattle.plot.proofs.Ends.{way_off, way_at, way_all}
use Rattle.plot.proofs.Plots.{next_below}
use Rattle.position.proofs.Tallies.{any_zero, any_true, any_miss}
use Rattle.position.specs.Tally.{any}
use mathlib.Core.Path.{◌≡◌, sym, ap, ◌∙◌}
use native.Mathlib.Omega.{arith}
use Rattle.plot.proofs.chain.has_rest.Goals as goal

pub loop-d-init : goal.loop-d-init
loop-d-init c = (omega arith, any_zero _)

pub loop-d-preserved-in_default : goal.loop-d-preserved-in_default
loop-d-preserved-in_default c = (omega arith, any_miss _ _ (way_off _ _ _ _ _ (sym c.next_in.ensures ∙ c.in_default.is)) ∙ c.loop-d.invariant.1)

pub rests-requires : goal.rests-requires
rests-requires c = (c.requires.0, next_below _ _ _ _ (sym c.next_in.ensures ∙ c.in-Some.is))

pub returns-then-rests : goal.returns-then-rests
returns-then-rests c = sym (way_all _ _ _ _ ∙ any_true _ 6 _ c.loop-d-test.true (way_at _ _ _ _ _ _ (sym c.next_in.ensures ∙ c.in-Some.is) ∙ sym c.rests.ensures ∙ c.if-rests.true))

pub loop-d-preserved : goal.loop-d-preserved
loop-d-preserved c = (omega arith, any_miss _ _ (way_at _ _ _ _ _ _ (sym c.next_in.ensures ∙ c.in-Some.is) ∙ sym c.rests.ensures ∙ c.if-rests.false) ∙ c.loop-d.invariant.1)

pub returns : goal.returns
returns c =
    let e : c.loop-d.d ≡ 6 = omega arith in
    sym (way_all _ _ _ _ ∙ ap (any _) (sym e) ∙ c.loop-d.invariant.1)
