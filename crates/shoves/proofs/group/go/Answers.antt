-- `group::go` meets its contract: a supply unit is destroyed, another is placed.
-- Assumes nothing.
use mathlib.Core.Path.{sym, ◌∙◌}
use Rattle.shoves.proofs.Turns.{goes_supply, goes_there}
use Rattle.shoves.proofs.group.go.Goals as goal

pub returns-then-kind-eq-SUPPLY : goal.returns-then-kind-eq-SUPPLY
returns-then-kind-eq-SUPPLY c =
    goes_supply _ _ _ (sym c.kind.ensures.is ∙ c.if-kind-eq-SUPPLY.true) c.destroy.ensures

pub returns : goal.returns
returns c =
    goes_there _ _ _ (λ e. c.if-kind-eq-SUPPLY.false (c.kind.ensures.is ∙ e)) c.place.ensures
