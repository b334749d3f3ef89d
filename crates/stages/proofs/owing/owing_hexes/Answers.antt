-- `owing::owing_hexes` meets its contract. The loop's invariant: the hexes seen are those of the units before u that owe.
-- Assumes nothing.
use mathlib.Core.Path.{refl, sym}
use native.Mathlib.Omega.{arith}
use Rattle.acceptance.proofs.Notes.{noted_none, noted_past, noted_more, noted_over, noted_all}
use Rattle.stages.proofs.owing.owing_hexes.Goals as goal
use Rattle.stages.proofs.owing.owing_hexes.Goals.{else-role-eq-OWES-via-then-role-eq-OWES+else-not-note, else-role-eq-OWES-via-else-role-eq-OWES}

pub loop-u-init : goal.loop-u-init
loop-u-init c = noted_none _ refl

pub returns-then-not-note : goal.returns-then-not-note
returns-then-not-note c = noted_over c.loop-u.invariant (omega arith) (sym c.hex.ensures.is) c.if-not-note.ensures (omega arith) (omega arith)

pub loop-u-preserved : goal.loop-u-preserved
loop-u-preserved c =
    elim c.else-role-eq-OWES.branch [
      | else-role-eq-OWES-via-then-role-eq-OWES+else-not-note w ↦
          rw w.seen-is (noted_more c.loop-u.invariant (omega arith) (sym w.hex.ensures.is) w.if-not-note.ensures (omega arith))
      | else-role-eq-OWES-via-else-role-eq-OWES w ↦ rw w.seen-is (noted_past c.loop-u.invariant (λ e. w.if-role-eq-OWES.false (omega arith)))
    ]

pub returns : goal.returns
returns c = noted_all c.loop-u.invariant (omega arith) (omega arith)
