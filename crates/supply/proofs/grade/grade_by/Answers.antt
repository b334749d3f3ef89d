-- `grade::grade_by` meets its contract: closed, a source, or open.
-- Assumes nothing.
use mathlib.Core.Path.{sym, ◌∙◌}
use native.Mathlib.Omega.{arith}
use Rattle.position.specs.Board.{board}
use Rattle.position.proofs.Answers.{holds}
use Rattle.field.specs.Scene.{scene}
use Rattle.supply.proofs.Grading.{grade_closed, grade_source, grade_open}
use Rattle.supply.proofs.grade.grade_by.Goals as goal

pub returns-then-not-open_by : goal.returns-then-not-open_by
returns-then-not-open_by c =
    let a = c.args in
    let s = scene (board a.p.now) in
    record { is = sym (grade_closed s a.h a.m a.n (sym c.open_by.ensures ∙ c.if-not-open_by.true)); small = omega arith }

pub returns-then-source_by : goal.returns-then-source_by
returns-then-source_by c =
    let a = c.args in
    let s = scene (board a.p.now) in
    let free = holds c.open_by.ensures c.if-not-open_by.false in
    record { is = sym (grade_source s a.h a.m a.n free c.source_by.ensures c.if-source_by.true); small = omega arith }

pub returns : goal.returns
returns c =
    let a = c.args in
    let s = scene (board a.p.now) in
    let free = holds c.open_by.ensures c.if-not-open_by.false in
    record { is = sym (grade_open s a.h a.m a.n free c.source_by.ensures c.if-source_by.false); small = omega arith }
