-- `ending::end_phase` meets its promise: each refusal where its test holds, and past them all what the phase's end changes.
-- Assumes nothing.
use mathlib.Core.Path.{sym, ap₂, ◌∙◌}
use Rattle.ruling.proofs.Meets.{pass, stop, ruled}
use Rattle.supply.proofs.Supplies.{other_length, own_length}
use Rattle.clock.specs.Clock.{is_last}
use Rattle.march.specs.EndPhase.{end_rule}
use Rattle.ending.proofs.end_phase.Goals as goal

pub returns-then-scratch-hexes : goal.returns-then-scratch-hexes
unfolding end_rule
returns-then-scratch-hexes c = stop (other_length (λ e. c.if-scratch-hexes.true (e ∙ sym c.requires.0.view.hexes)))

pub stage-requires : goal.stage-requires
stage-requires c = c.requires.0

pub returns-then-stage-ne-QUIET : goal.returns-then-stage-ne-QUIET
unfolding end_rule
returns-then-stage-ne-QUIET c =
    pass (own_length (c.if-scratch-hexes.false ∙ c.requires.0.view.hexes)) (stop (other_length (λ e. c.if-stage-ne-QUIET.true (c.stage.ensures.is ∙ e))))

pub clock_of-requires : goal.clock_of-requires
clock_of-requires c = c.requires.0

pub last_turn-requires : goal.last_turn-requires
last_turn-requires c = c.requires.0

pub returns-then-is_last : goal.returns-then-is_last
unfolding end_rule
returns-then-is_last c =
    let e = ap₂ is_last c.clock_of.ensures.is c.last_turn.ensures.is in
    pass (own_length (c.if-scratch-hexes.false ∙ c.requires.0.view.hexes))
    (pass (own_length (sym c.stage.ensures.is ∙ c.if-stage-ne-QUIET.false)) (stop (sym e ∙ sym c.is_last.ensures ∙ c.if-is_last.true)))

pub pass_on-requires : goal.pass_on-requires
pass_on-requires c = (c.requires.0, c.requires.1, c.if-scratch-hexes.false)

pub returns : goal.returns
unfolding end_rule
returns c =
    let e = ap₂ is_last c.clock_of.ensures.is c.last_turn.ensures.is in
    let o = c.pass_on.ensures in
    pass (own_length (c.if-scratch-hexes.false ∙ c.requires.0.view.hexes))
    (pass (own_length (sym c.stage.ensures.is ∙ c.if-stage-ne-QUIET.false))
    (pass (sym e ∙ sym c.is_last.ensures ∙ c.if-is_last.false) (rw (sym o.clear) (ruled o.made))))
