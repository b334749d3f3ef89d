-- `plot::chain::mark_last` meets its contract.
-- Assumes nothing.
use mathlib.Core.Path.{sym, ◌∙◌}
use native.Mathlib.Omega.{arith}
use Rattle.plot.proofs.Ends.{ends_never, ends_rest, marks_as, marks_none}
use Rattle.plot.proofs.chain.mark_last.Goals as goal

pub returns-then-has_rest : goal.returns-then-has_rest
returns-then-has_rest c = marks_as (λ y k. ends_rest _ _ _ _ _ y (omega arith) (sym c.has_rest.ensures ∙ c.if-has_rest.true)) c.mark_rests.ensures

pub returns-else-has_rest : goal.returns-else-has_rest
returns-else-has_rest c = marks_none (λ y k. ends_never _ _ _ _ _ y (omega arith) (omega arith) (sym c.has_rest.ensures ∙ c.if-has_rest.false))
