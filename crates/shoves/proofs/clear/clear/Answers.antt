-- `clear::clear` meets its contract. The loop's invariant: the pushes of the chain from number j on are carried out.
-- Assumes nothing.
use Prim.Native.Nat.{ℕ, ◌-◌}
use mathlib.Core.Path.{ap, ◌∙◌}
use native.Mathlib.Omega.{arith}
use lib.ListN.{get_or}
use Rattle.position.specs.Board.{board}
use Rattle.position.specs.Change.{makes}
use Rattle.shoves.specs.Shoves.{stack_to}
use Rattle.shoves.proofs.Clearing.{done_all, done_more, done_none}
use Rattle.shoves.proofs.clear.clear.Goals as goal

pub loop-j-init : goal.loop-j-init
loop-j-init c = done_none c.requires.0 c.chain_end-end.ensures

pub loop-j-preserved : goal.loop-j-preserved
loop-j-preserved c =
    let e = ap (λ (x : ℕ). makes c.loop-j.p (stack_to (board c.loop-j.p) x (get_or c.args.pushes.now (c.loop-j.j - 1) 0))) c.out_of-from.ensures in
    done_more c.requires.0 c.chain_end-end.ensures c.loop-j.invariant (omega arith) (c.move_stack.ensures ∙ e)

pub returns : goal.returns
returns c = done_all c.loop-j.invariant c.loop-j-test.false
