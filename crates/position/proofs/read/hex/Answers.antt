-- `read::hex` meets its contract: 65535 past the last unit, and two bytes of the unit up to it.
-- Assumes nothing.
use native.Mathlib.Omega.{arith}
use Rattle.position.proofs.Tables.{hex_in, hex_out}
use Rattle.position.proofs.read.hex.Goals as goal

pub returns-then-count-u : goal.returns-then-count-u
returns-then-count-u c =
    let a = c.args in
    record { is = omega (arith, hex_out a.p.now a.u (omega arith)); small = omega arith }

pub returns : goal.returns
returns c =
    let a = c.args in
    record { is = omega (arith, hex_in a.p.now a.u (omega arith)); small = omega arith }
