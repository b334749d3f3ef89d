-- `settling::suffer_one` meets its contract: the unit is destroyed or gets its role.
-- Assumes nothing.
use mathlib.Core.Path.{◌∙◌, ap, sym}
use Rattle.position.specs.Change.{make}
use Rattle.results.proofs.Settles.{suffers_lost, suffers_role}
use Rattle.results.proofs.settling.suffer_one.Goals as goal

pub returns-then-fate-eq-LOST : goal.returns-then-fate-eq-LOST
returns-then-fate-eq-LOST c = c.destroy.ensures ∙ ap (make c.args.p.now) (sym (suffers_lost _ _ c.if-fate-eq-LOST.true))

pub returns : goal.returns
returns c = c.assign.ensures ∙ ap (make c.args.p.now) (sym (suffers_role _ _ c.if-fate-eq-LOST.false))
