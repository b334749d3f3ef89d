-- `advance::step_up` meets its contract: the three writes are the changes of an advance and the stage that follows.
-- Assumes nothing.
use native.Mathlib.Omega.{arith}
use Rattle.position.proofs.Changes.{laid_make}
use Rattle.position.specs.Board.{board}
use Rattle.position.specs.Change.Change.{assigned, placed}
use Rattle.position.specs.Role as Role
use Rattle.aftermath.proofs.Advancing.{both_made}
use Rattle.aftermath.proofs.Stages.{then_on_lem}
use Rattle.aftermath.specs.Advance.{advance_changes}
use Rattle.advance.proofs.step_up.Goals as goal

pub assign-requires : goal.assign-requires
assign-requires c = (
  (let a = c.args in
      rw c.place.ensures (laid_make c.requires (placed a.u a.hex))),
  omega arith,
)

pub pass_on-requires : goal.pass_on-requires
pass_on-requires c =
    let a = c.args in
    rw c.assign.ensures (laid_make (let a = c.args in
    rw c.place.ensures (laid_make c.requires (placed a.u a.hex))) (assigned a.u Role.none))

pub returns : goal.returns
returns c =
    let a = c.args in
    then_on_lem c.requires.shaped (advance_changes (board a.p.now) a.u a.hex)
    (both_made a.p.now a.u a.hex
    c.place.ensures
    c.assign.ensures)
    c.pass_on.ensures
