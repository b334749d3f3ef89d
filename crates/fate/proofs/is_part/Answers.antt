-- `fate::is_part` meets its contract: a run is a part route if none is longer, and that is known of one as long as is owed.
-- Assumes nothing.
use mathlib.Core.Path.{sym, refl, ◌∙◌}
use native.Mathlib.Omega.{arith}
use Rattle.routes.proofs.Part.{longer_found, longer_known, part_no_run, part_run}
use Rattle.retreat.proofs.Groups.{none_found}
use Rattle.fate.proofs.is_part.Goals as goal

pub returns-then-not-run : goal.returns-then-not-run
returns-then-not-run c =
    sym (part_no_run _ _ _ _ (sym c.requires.4 ∙ c.if-not-run.true))

pub returns-then-owed-longer : goal.returns-then-owed-longer
returns-then-owed-longer c =
    sym
    (part_run _ _ _ _ (sym c.requires.4 ∙ c.if-not-run.false)
    ∙ longer_known _ _ _ _ _ (omega (arith, c.if-owed-longer.true, c.owed.ensures.is)) (none_found _ _ c.requires.3))

pub returns : goal.returns
returns c =
    c.no_run.ensures
    ∙ sym (part_run _ _ _ _ (sym c.requires.4 ∙ c.if-not-run.false) ∙ longer_found _ _ _ _ refl)
