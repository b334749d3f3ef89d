-- `listed::all_there` meets its contract. The loop's invariant: what meets the tests from the next place on meets them all.
-- Assumes nothing.
use Prim.Native.Nat.{◌+◌}
use native.Mathlib.Omega.{arith}
use lib.ListN.{get_or}
use Rattle.position.specs.Board.{board}
use Rattle.ruling.proofs.Going.{gone_end, gone_none, gone_stop}
use Rattle.field.proofs.Lists.{is_none, there_more}
use Rattle.field.specs.Listed.{all_there}
use Rattle.field.proofs.listed.all_there.Goals as goal

pub loop-i-init : goal.loop-i-init
loop-i-init c = record { gone = gone_none; counted = λ j l. absurd (omega arith) }

pub returns-then-count-u : goal.returns-then-count-u
unfolding all_there
returns-then-count-u c =
    let a = c.args in
    λ l v.
    gone_stop c.loop-i.invariant.gone (omega arith)
    (is_none a.p.now (board a.p.now) 0 (get_or a.units.now c.loop-i.i 0) (c.loop-i.i + 1) (omega arith)) l (λ s. v)

pub loop-i-preserved : goal.loop-i-preserved
loop-i-preserved c = there_more c.loop-i.invariant (omega arith) (omega arith)

pub returns : goal.returns
unfolding all_there
returns c = (λ l v a q m w. gone_end c.loop-i.invariant.gone (omega arith) l (λ s. v) a q m w, λ j l. c.loop-i.invariant.counted j (omega arith))
