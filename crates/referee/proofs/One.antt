-- An export's promise leaves it no freedom.
-- Assumes nothing.
use mathlib.Core.Path.{sym, ap, ◌∙◌}
use Rattle.ruling.proofs.Meets.{only}
use Rattle.ruling.specs.Packed.{packed}
use Rattle.referee.specs.Exported.{OneExport}

pub one_export : OneExport
one_export p l v r r' q q' m m' g h =
    let o = only g.met h.met in (g.packs ∙ (ap packed o.answer ∙ sym h.packs), o.position, o.lent)
