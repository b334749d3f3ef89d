-- `read::code` meets its contract: for a die of 1 to 6 it is a byte of the column, for any other 0.
-- Assumes nothing.
use mathlib.Core.Path.{sym, ◌∙◌}
use native.Mathlib.Omega.{arith}
use Rattle.position.proofs.Tables.{code_in, code_none, code_past}
use Rattle.position.proofs.read.code.Goals as goal

pub returns-then-die-le0 : goal.returns-then-die-le0
returns-then-die-le0 c = record { is = sym (code_none _ _ _ c.if-die-le0.true); small = omega arith }

pub returns-then-die-ge7 : goal.returns-then-die-ge7
returns-then-die-ge7 c = record { is = sym (code_past _ _ _ (omega (arith, c.if-die-le0.false)) c.if-die-ge7.true); small = omega arith }

pub returns : goal.returns
returns c =
    record {
      is = c.column_byte.ensures.is
          ∙ sym (code_in _ _ _ (omega (arith, c.if-die-le0.false)) c.if-die-ge7.false);
      small = c.column_byte.ensures.small;
    }
