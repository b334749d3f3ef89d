-- `search::begins` meets its contract: no step, the last one, or the recursion.
-- Assumes nothing.
use mathlib.Core.Path.{refl, sym, ◌∙◌}
use Rattle.plot.proofs.Searching.{serves_done, serves_last}
use Rattle.search.proofs.begins.Goals as goal

pub returns-then-k-eq0 : goal.returns-then-k-eq0
returns-then-k-eq0 c = (sym (serves_done _ _ _ _ _ c.if-k-eq0.true), refl)

pub returns-then-k-eq1 : goal.returns-then-k-eq1
returns-then-k-eq1 c = (c.last.ensures ∙ serves_last _ _ _ _ _ c.if-k-eq1.true, refl)
