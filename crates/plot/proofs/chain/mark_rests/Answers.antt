use Rattle.plot.proofs.Ends.{close_step, upto_none, upto_skip, upto_all, upto_rest, upto_stay, rest_off, rest_all_lem}
use Rattle.plot.proofs.Plots.{next_below}
use Rattle.plot.specs.Ends.{MarkSet}
use mathlib.Core.Path.{sym, subst, ◌∙◌}
use native.Mathlib.Omega.{arith}
use Rattle.plot.proofs.chain.mark_rests.Goals as goal
use Rattle.plot.proofs.chain.mark_rests.Goals.{then-rests, else-rests}

pub loop-d-init : goal.loop-d-init
loop-d-init c = (omega arith, upto_none _)

pub loop-d-preserved-in_default : goal.loop-d-preserved-in_default
loop-d-preserved-in_default c = (omega arith, upto_skip _ c.loop-d.invariant.1 (rest_off _ _ _ _ _ (sym c.next_in.ensures ∙ c.in_default.is)))

pub rests-requires : goal.rests-requires
rests-requires c = (c.requires.0, next_below _ _ _ _ (sym c.next_in.ensures ∙ c.in-Some.is))

pub overflow_add-z : goal.overflow_add-z
overflow_add-z c = let k = (close_step _ _ _ _ (sym c.next_in.ensures ∙ c.in-Some.is) c.requires.3) in omega arith

pub overflow_sub-z : goal.overflow_sub-z
overflow_sub-z c = let k = (close_step _ _ _ _ (sym c.next_in.ensures ∙ c.in-Some.is) c.requires.3) in omega arith

pub mark-requires : goal.mark-requires
mark-requires c =
    let k = (close_step _ _ _ _ (sym c.next_in.ensures ∙ c.in-Some.is) c.requires.3) in
    (c.loop-d.invariant.1.long ∙ c.requires.1, omega arith)

pub loop-d-preserved : goal.loop-d-preserved
loop-d-preserved c =
    let e = sym c.next_in.ensures ∙ c.in-Some.is in
    let r = c.rests.ensures in
    let k = c.loop-d.invariant.1 in (
      omega arith,
      elim c.if-rests.branch [
        | then-rests w ↦ upto_rest _ _ _ _ _ _ e k (sym r ∙ w.if-rests.true) (close_step _ _ _ _ e c.requires.3) (subst (MarkSet _ _) (sym w.ends-is) w.mark.ensures)
        | else-rests w ↦ upto_stay _ _ _ _ _ _ e k (sym r ∙ w.if-rests.false) w.ends-is
      ],
    )

pub returns : goal.returns
returns c = upto_all _ (omega arith) (omega arith) (rest_all_lem _ _ _ _) c.loop-d.invariant.1
