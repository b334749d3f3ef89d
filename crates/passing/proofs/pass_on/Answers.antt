-- `passing::pass_on` meets its contract: who has a role is counted, and what follows is written.
-- Assumes nothing.
use mathlib.Core.Path.{sym, ◌∙◌}
use Rattle.position.proofs.Changes.{laid_make}
use Rattle.position.specs.Change.Change.{staged}
use Rattle.position.specs.Stage as Stage
use Rattle.aftermath.proofs.Stages.{on_advances, on_later, on_quiet}
use Rattle.passing.proofs.pass_on.Goals as goal

pub returns-then-holders-ne0 : goal.returns-then-holders-ne0
returns-then-holders-ne0 c = on_later _ (λ e. c.if-holders-ne0.true (c.holders.ensures.is ∙ e))

pub returns-then-holders-ne0-2 : goal.returns-then-holders-ne0-2
returns-then-holders-ne0-2 c =
    on_advances _ (sym c.holders.ensures.is ∙ c.if-holders-ne0.false)
    (λ e. c.if-holders-ne0-2.true (c.holders-2.ensures.is ∙ e))
    c.set_stage.ensures

pub clear_routes-requires : goal.clear_routes-requires
clear_routes-requires c = rw c.set_stage-2.ensures (laid_make c.requires (staged Stage.quiet 0 0))

pub returns : goal.returns
returns c =
    on_quiet _ (sym c.holders.ensures.is ∙ c.if-holders-ne0.false)
    (sym c.holders-2.ensures.is ∙ c.if-holders-ne0-2.false)
    c.set_stage-2.ensures c.clear_routes.ensures
