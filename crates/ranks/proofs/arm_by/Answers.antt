-- `ranks::arm_by` meets its contract. The loop's invariant: the fighters passed are armed where they are of the nationality.
-- Assumes nothing.
use mathlib.Core.Path.{◌∙◌, sym}
use native.Mathlib.Omega.{arith}
use Rattle.position.specs.Board.{board}
use Rattle.line.specs.Line.{fighter_at}
use Rattle.battle.proofs.Lines.{arming_all, arming_more, arms_own, own_left}
use Rattle.ranks.proofs.arm_by.Goals as goal
use Rattle.ranks.proofs.arm_by.Goals.{then-nationality-nation, else-nationality-nation}

pub loop-f-preserved : goal.loop-f-preserved
loop-f-preserved c =
    let b = board c.args.p.now in
    let x = fighter_at c.loop-f.line c.loop-f.f-index in
    elim c.if-nationality-nation.branch [
      | then-nationality-nation w ↦
          arming_more c.loop-f.invariant (omega arith) (arms_own b c.args.nation x (sym c.nationality.ensures.is ∙ w.if-nationality-nation.true) w.strength.ensures.is) w.line-is
      | else-nationality-nation w ↦
          arming_more c.loop-f.invariant (omega arith) (sym (own_left b c.args.nation x (λ e. w.if-nationality-nation.false (c.nationality.ensures.is ∙ e)))) w.line-is
    ]

pub returns : goal.returns
returns c = arming_all (omega arith) c.loop-f.invariant
