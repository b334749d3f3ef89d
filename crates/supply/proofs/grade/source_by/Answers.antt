-- `grade::source_by` meets its contract: the US, Canada, and the others.
-- Assumes nothing.
use mathlib.Core.Path.{sym, ◌∙◌}
use Rattle.position.specs.Board.{board}
use Rattle.field.specs.Scene.{scene}
use Rattle.supply.proofs.Grading.{source_us, source_canada, source_landed}
use Rattle.supply.proofs.grade.source_by.Goals as goal

pub returns-then-n-eq-US : goal.returns-then-n-eq-US
returns-then-n-eq-US c =
    let a = c.args in
    let s = scene (board a.p.now) in
    c.home_source.ensures ∙ sym (source_us s a.h a.m a.n c.if-n-eq-US.true)

pub returns-then-n-eq-CANADA : goal.returns-then-n-eq-CANADA
returns-then-n-eq-CANADA c =
    let a = c.args in
    let s = scene (board a.p.now) in
    c.home_source-then-n-eq-CANADA.ensures ∙ sym (source_canada s a.h a.m a.n c.if-n-eq-CANADA.true)

pub returns : goal.returns
returns c =
    let a = c.args in
    let s = scene (board a.p.now) in
    c.landed_by.ensures ∙ sym (source_landed s a.h a.m a.n c.if-n-eq-US.false c.if-n-eq-CANADA.false)
