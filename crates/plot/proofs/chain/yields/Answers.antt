use Rattle.plot.proofs.Trails.{not_loose, yields_other, yields_own, yields_past}
use Rattle.chains.specs.Stand.{is_loose}
use mathlib.Core.Bool.{not}
use mathlib.Core.Path.{sym, ap, ◌∙◌}
use Rattle.plot.proofs.chain.yields.Goals as goal

pub returns-in_default : goal.returns-in_default
returns-in_default c = sym (yields_other _ _ _ _ (ap is_loose (sym c.stand_in.ensures) ∙ not_loose c.stand_in.result c.in_default.not-Loose))

pub returns-then-h-z : goal.returns-then-h-z
returns-then-h-z c = sym (yields_own _ _ _ _ c.if-h-z.true)

pub returns : goal.returns
returns c = ap not c.on_trail.ensures ∙ sym (yields_past _ _ _ _ (sym c.stand_in.ensures ∙ c.in-Loose.is) c.if-h-z.false)
