-- `forces::neutral` meets its contract.
-- Assumes nothing.
use mathlib.Core.Path.{ap₂, ◌∙◌}
use lib.Dec.{eqb}
use borrow.Author.Tests.{eq-eqb, ne_eqb}
use Rattle.position.specs.Board.{neutral}
use Rattle.forces.proofs.neutral.Goals as goal

pub returns-then-f-g : goal.returns-then-f-g
unfolding neutral
returns-then-f-g c = simp (eq-eqb c.args.f c.args.g c.if-f-g.true)

pub returns : goal.returns
unfolding neutral
returns c =
    let a = c.args in
    ap₂ eqb c.player.ensures c.player-2.ensures ∙ simp (ne_eqb a.f a.g c.if-f-g.false)
