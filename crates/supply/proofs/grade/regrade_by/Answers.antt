-- `grade::regrade_by` meets its contract: closed, a source, or open.
-- Assumes nothing.
use mathlib.Core.Path.{sym}
use native.Mathlib.Omega.{arith}
use Rattle.position.specs.Board.{board}
use Rattle.field.specs.Scene.{scene}
use Rattle.supply.proofs.Grading.{regrade_closed, regrade_source, regrade_open}
use Rattle.supply.proofs.grade.regrade_by.Goals as goal

pub returns-then-m-le0 : goal.returns-then-m-le0
returns-then-m-le0 c =
    let a = c.args in
    let s = scene (board a.p.now) in
    record { is = sym (regrade_closed s a.h c.if-m-le0.true); small = omega arith }

pub returns-then-home_source : goal.returns-then-home_source
returns-then-home_source c =
    let a = c.args in
    let s = scene (board a.p.now) in
    record { is = sym (regrade_source s a.h a.m (omega arith) c.home_source.ensures c.if-home_source.true); small = omega arith }

pub returns : goal.returns
returns c =
    let a = c.args in
    let s = scene (board a.p.now) in
    record { is = sym (regrade_open s a.h a.m (omega arith) c.home_source.ensures c.if-home_source.false); small = omega arith }
