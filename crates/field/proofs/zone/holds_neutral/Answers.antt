-- `zone::holds_neutral` meets its contract: where the desk names no players none is neutral, else the units are asked.
-- Assumes nothing.
use mathlib.Core.Bool.{not}
use mathlib.Core.Path.{sym, ap, ◌∙◌}
use borrow.Author.Tests.{eq-eqb}
use Rattle.position.proofs.Players.{none_neutral}
use Rattle.field.proofs.Zones.{holds_no_neutral}
use Rattle.field.proofs.zone.holds_neutral.Goals as goal

pub returns-else-v-ne0 : goal.returns-else-v-ne0
returns-else-v-ne0 c =
    ap not (eq-eqb c.args.v.players 0 c.if-v-ne0.false)
    ∙ sym (holds_no_neutral _ _ _ (none_neutral c.args.p.now (sym c.requires.view.players ∙ c.if-v-ne0.false) c.args.f))
