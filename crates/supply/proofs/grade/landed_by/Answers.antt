-- `grade::landed_by` meets its contract: a coastal hex with a supply unit, or else the force on a landing.
-- Assumes nothing.
use mathlib.Core.Path.{sym, ◌∙◌}
use Rattle.position.specs.Board.{board}
use Rattle.field.specs.Scene.{scene}
use Rattle.supply.proofs.Grading.{depot_inland, depot_none, landed_depot, landed_own, landed_not}
use Rattle.supply.proofs.grade.landed_by.Goals as goal
use Rattle.supply.proofs.grade.landed_by.Goals.{then-coastal+else-has, else-coastal}

pub returns-then-has : goal.returns-then-has
returns-then-has c =
    let a = c.args in
    let s = scene (board a.p.now) in
    sym (landed_depot s a.h a.m (sym c.coastal.ensures ∙ c.if-coastal.true) (sym c.has.ensures ∙ c.if-has.true))

pub returns-then-has-2 : goal.returns-then-has-2
returns-then-has-2 c =
    let a = c.args in
    let s = scene (board a.p.now) in
    c.landing.ensures ∙ sym (landed_own s a.h a.m (elim c.if-coastal.branch [
      | then-coastal+else-has w ↦ depot_none s a.h a.m (sym w.has.ensures ∙ w.if-has.false)
      | else-coastal w ↦ depot_inland s a.h a.m (sym c.coastal.ensures ∙ w.if-coastal.false)
    ]) (sym c.has-2.ensures ∙ c.if-has-2.true))

pub returns : goal.returns
returns c =
    let a = c.args in
    let s = scene (board a.p.now) in
    sym (landed_not s a.h a.m (elim c.if-coastal.branch [
      | then-coastal+else-has w ↦ depot_none s a.h a.m (sym w.has.ensures ∙ w.if-has.false)
      | else-coastal w ↦ depot_inland s a.h a.m (sym c.coastal.ensures ∙ w.if-coastal.false)
    ]) (sym c.has-2.ensures ∙ c.if-has-2.false))
