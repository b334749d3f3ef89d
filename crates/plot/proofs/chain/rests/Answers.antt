use Rattle.plot.proofs.Trails.{not_free, rests_other, rests_own, rests_past}
use Rattle.chains.specs.Stand.{is_free}
use mathlib.Core.Bool.{not}
use mathlib.Core.Path.{sym, ap, ◌∙◌}
use Rattle.plot.proofs.chain.rests.Goals as goal

pub returns-in_default : goal.returns-in_default
returns-in_default c = sym (rests_other _ _ _ _ (ap is_free (sym c.stand_in.ensures) ∙ not_free c.stand_in.result c.in_default.not-Free))

pub returns-then-h-z : goal.returns-then-h-z
returns-then-h-z c = sym (rests_own _ _ _ _ c.if-h-z.true)

pub returns : goal.returns
returns c = ap not c.on_trail.ensures ∙ sym (rests_past _ _ _ _ (sym c.stand_in.ensures ∙ c.in-Free.is) c.if-h-z.false)
