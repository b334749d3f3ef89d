-- `reach` meets its contract. Without a source nothing is to be done, and after the first sweep nothing if no open hex is left; else both sweeps
-- and the walks have been made.
-- Assumes nothing.
use mathlib.Core.Path.{◌∙◌}
use native.Mathlib.Omega.{arith}
use Rattle.position.specs.Board.{ground}
use Rattle.walk.proofs.Steps.{two_way}
use Rattle.walk.proofs.Joins.{swept_none, swept_trans, swept_grades}
use Rattle.walk.proofs.Runs.{graded_rest, seeded_sourceless, seeded_full, walked}
use Rattle.walking.proofs.reach.Goals as goal

pub some-requires : goal.some-requires
some-requires c = omega (arith, c.requires.graded.size)

pub returns-then-not-some : goal.returns-then-not-some
returns-then-not-some c =
    let g = two_way (ground c.args.p.now) in
    let most = c.requires.graded.grades in
    walked g most (swept_none _) (seeded_sourceless (graded_rest _ most) c.requires.graded.size (c.some.ensures c.if-not-some.true))

pub down-requires : goal.down-requires
down-requires c = (c.requires.laid, c.requires.graded.size)

pub some-requires-2 : goal.some-requires-2
some-requires-2 c = omega (arith, c.requires.graded.size, c.down.ensures.same)

pub returns-then-not-some-2 : goal.returns-then-not-some-2
returns-then-not-some-2 c =
    let g = two_way (ground c.args.p.now) in
    let most = c.requires.graded.grades in
    let w = c.down.ensures in
    walked g most w (seeded_full (graded_rest _ (swept_grades w most)) (w.same ∙ c.requires.graded.size) (c.some-2.ensures c.if-not-some-2.true))

pub up-requires : goal.up-requires
up-requires c = (c.requires.laid, c.down.ensures.same ∙ c.requires.graded.size)

pub seeds-requires : goal.seeds-requires
seeds-requires c =
    let w = swept_trans c.down.ensures c.up.ensures in
    record { laid = (c.requires.laid, w.same ∙ c.requires.graded.size); rest = graded_rest _ (swept_grades w c.requires.graded.grades) }

pub returns : goal.returns
returns c =
    let g = two_way (ground c.args.p.now) in
    let most = c.requires.graded.grades in
    walked g most (swept_trans c.down.ensures c.up.ensures) c.seeds.ensures
