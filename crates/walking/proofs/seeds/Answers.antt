-- `seeds` meets its contract. The invariant: the walks from the hexes of the rows before row `row`.
-- Assumes nothing.
use mathlib.Core.Path.{◌∙◌}
use native.Mathlib.Omega.{arith}
use Rattle.position.proofs.Sides.{area_view}
use Rattle.walk.proofs.Joins.{row_past, row_next}
use Rattle.walk.proofs.Runs.{sown_none, sown_on, sown_all}
use Rattle.walking.proofs.seeds.Goals as goal

pub loop-row-init : goal.loop-row-init
loop-row-init c = sown_none c.requires.rest (λ k p q. absurd (omega arith))

pub seed_row-requires : goal.seed_row-requires
seed_row-requires c = let s = c.requires.laid in record { laid = (s.0, c.loop-row.invariant.kept.same ∙ s.1, c.loop-row-test.true); rest = c.loop-row.invariant.rest }

pub loop-row-preserved : goal.loop-row-preserved
loop-row-preserved c = let z = row_next c.loop-row.row c.args.v.width in sown_on (omega arith) (omega arith) c.loop-row.invariant c.seed_row.ensures

pub shape_of-buf : goal.shape_of-buf
shape_of-buf c = c.loop-row.invariant.kept.same

pub returns : goal.returns
returns c =
    let s = c.requires.laid in
    let z = row_past c.args.v.width c.loop-row-test.false in
    sown_all _ (omega (arith, s.1, area_view s.0.view)) c.loop-row.invariant
