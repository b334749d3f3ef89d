-- `stepping::allowed` meets its contract: the working allowance, which is no more than the allowance.
-- Assumes nothing.
use mathlib.Core.Path.{ap, ◌∙◌}
use Rattle.position.specs.Bits.{has, supplied}
use Rattle.position.specs.Board.{board}
use Rattle.march.proofs.Steps.{allowed_read}
use Rattle.stepping.proofs.allowed.Goals as goal

pub returns : goal.returns
returns c =
    let a = c.args in
    let marked = c.has-marked.ensures ∙ ap (has supplied) c.marks.ensures.is in
    allowed_read (board a.p.now) a.u marked c.allowance.ensures c.working.ensures
