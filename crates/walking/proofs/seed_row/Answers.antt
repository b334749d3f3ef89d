-- `seed_row` meets its contract. The invariant: the walks from the hexes of the row that lie before column c.
-- Assumes nothing.
use mathlib.Core.Path.{◌∙◌}
use native.Mathlib.Omega.{arith}
use Rattle.position.proofs.Sides.{area_view}
use Rattle.walk.proofs.Joins.{map_on, apart_next}
use Rattle.walk.proofs.Runs.{sown_none, sown_on, sown_less}
use Rattle.walking.proofs.seed_row.Goals as goal

pub joinable-requires : goal.joinable-requires
joinable-requires c = let s = c.requires.laid in (map_on s.0, s.1 ∙ area_view s.0.view, s.2)

pub returns-then-not-joinable : goal.returns-then-not-joinable
returns-then-not-joinable c =
    let s = c.requires in
    sown_none s.rest (λ k p q. apart_next s.laid.0.view k (c.joinable.ensures c.if-not-joinable.true k p q))

pub loop-c-init : goal.loop-c-init
loop-c-init c = sown_none c.requires.rest (λ k p q. absurd (omega arith))

pub spot-requires : goal.spot-requires
spot-requires c = let s = c.requires.laid in (map_on s.0, s.2, c.loop-c-test.true)

pub seed-requires : goal.seed-requires
seed-requires c =
    let s = c.requires.laid in
    let a = c.loop-c.invariant in
    record { laid = (s.0, c.spot.ensures.0); buf_len = a.kept.same ∙ s.1; rest = a.rest }

pub loop-c-preserved : goal.loop-c-preserved
loop-c-preserved c = let e = c.spot.ensures.1 in sown_on (omega arith) (omega arith) c.loop-c.invariant c.seed.ensures

pub shape_of-buf : goal.shape_of-buf
shape_of-buf c = c.loop-c.invariant.kept.same

pub returns : goal.returns
returns c = sown_less (omega arith) c.loop-c.invariant
