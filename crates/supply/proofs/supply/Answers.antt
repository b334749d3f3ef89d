-- `supply::supply` meets its promise: each refusal where its test holds, and past them all the supply map.
-- Assumes nothing.
use mathlib.Core.Path.{sym, ◌∙◌}
use native.Mathlib.Omega.{arith}
use borrow.Author.Tests.{lt-ltb, le-ltb}
use Rattle.ruling.proofs.Meets.{pass, stop}
use Rattle.supply.specs.Supply.{supply_rule}
use Rattle.supply.proofs.Supplies.{other_length, own_length, filled}
use Rattle.supply.proofs.supply.Goals as goal

pub returns-then-out-hexes : goal.returns-then-out-hexes
unfolding supply_rule
returns-then-out-hexes c = stop (other_length (λ e. c.if-out-hexes.true (e ∙ sym c.requires.view.hexes)))

pub returns-then-nationality-gt-CANADA : goal.returns-then-nationality-gt-CANADA
unfolding supply_rule
returns-then-nationality-gt-CANADA c =
    pass (own_length (c.if-out-hexes.false ∙ c.requires.view.hexes)) (stop (lt-ltb _ _ c.if-nationality-gt-CANADA.true))

pub fill-requires : goal.fill-requires
fill-requires c = (c.requires, omega arith)

pub returns : goal.returns
unfolding supply_rule
returns c =
    pass (own_length (c.if-out-hexes.false ∙ c.requires.view.hexes)) (pass (le-ltb _ _ c.if-nationality-gt-CANADA.false) (filled c.fill.ensures))
