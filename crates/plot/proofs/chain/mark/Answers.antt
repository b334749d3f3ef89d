-- `chain::mark` meets its contract: a mark that is not set yet is added to its byte.
-- Assumes nothing.
use mathlib.Core.Path.{sym, ◌∙◌}
use native.Mathlib.Omega.{arith}
use Rattle.plot.proofs.Marking.{mark_fits, mark_set}
use Rattle.plot.proofs.chain.mark.Goals as goal

pub overflow_cast-ends : goal.overflow_cast-ends
overflow_cast-ends c =
    let a = c.args in
    omega (
      arith,
      mark_fits a.k a.ends.now c.wide.result c.bit.result c.wide.ensures.is c.bit.ensures.0
          (sym c.is_marked.ensures ∙ c.if-is_marked.false)
          c.wide.ensures.small,
    )

pub returns : goal.returns
returns c =
    let a = c.args in
    mark_set a.k a.ends.now c.wide.result c.bit.result c.wide.ensures.is c.bit.ensures.0
    (sym c.is_marked.ensures ∙ c.if-is_marked.false)
    (omega (arith, c.requires.0, c.requires.1))
