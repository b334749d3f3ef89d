-- `draw::open_bits` meets its contract. The loop's invariant: the bits of the directions passed. The measure is how many are left.
-- Assumes nothing.
use mathlib.Core.Path.{◌≡◌, sym, ap, ◌∙◌}
use native.Mathlib.Omega.{arith}
use Rattle.position.specs.Board.{ground}
use Rattle.pushes.specs.Drawn.{open_bits}
use Rattle.pushes.proofs.Drawing.{opens_at, opens_off, bits_none, bits_open, bits_shut, bits_low}
use Rattle.pushes.proofs.draw.open_bits.Goals as goal
use Rattle.pushes.proofs.draw.open_bits.Goals.{in-Some, in_default}

pub loop-d-init : goal.loop-d-init
loop-d-init c = (omega arith, sym (bits_none _ _))

pub overflow_add-m : goal.overflow_add-m
overflow_add-m c =
    let a = c.args in
    omega (arith, c.side_bit-m.ensures, c.loop-d.invariant.1, bits_low (ground a.p.now) a.x c.loop-d.d (omega arith))

pub loop-d-preserved : goal.loop-d-preserved
loop-d-preserved c =
    let a = c.args in
    let m = ground a.p.now in
    let d = c.loop-d.d in
    let e = c.next.ensures in (
      omega arith,
      elim c.match-next.branch [
        | in-Some w ↦ omega (arith, w.m-is, w.side_bit-m.ensures, c.loop-d.invariant.1, bits_open m a.x d (opens_at m a.x d e w.in-Some.is))
        | in_default w ↦ omega (arith, w.m-is, c.loop-d.invariant.1, bits_shut m a.x d (opens_off m a.x d e w.in_default.is))
      ],
    )

pub returns : goal.returns
returns c =
    let a = c.args in
    let e : c.loop-d.d ≡ 6 = omega arith in
    let q = c.loop-d.invariant.1 ∙ ap (open_bits (ground a.p.now) a.x) e in
    (q, omega (arith, q, bits_low (ground a.p.now) a.x 6 (omega arith)))
