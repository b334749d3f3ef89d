-- `layout::cell` meets its contract: what it reads lies within the table.
-- Assumes nothing.
use mathlib.Core.Path.{sym, ◌∙◌}
use native.Mathlib.Omega.{arith}
use Rattle.position.proofs.Cells.{inside, cell_in, cell_out}
use Rattle.position.proofs.layout.cell.Goals as goal

pub returns-then-n-k : goal.returns-then-n-k
returns-then-n-k c = record { is = sym (cell_out _ _ _ _ _ _ c.if-n-k.true); small = omega arith }

pub overflow_mul-size : goal.overflow_mul-size
overflow_mul-size c = omega (arith, (inside c.args.size c.args.n c.args.k c.args.f c.if-n-k.false c.requires.0))

pub overflow_add-start : goal.overflow_add-start
overflow_add-start c = omega (arith, (inside c.args.size c.args.n c.args.k c.args.f c.if-n-k.false c.requires.0))

pub overflow_add-start-2 : goal.overflow_add-start-2
overflow_add-start-2 c = omega (arith, (inside c.args.size c.args.n c.args.k c.args.f c.if-n-k.false c.requires.0))

pub bounds-p-start : goal.bounds-p-start
bounds-p-start c = omega (arith, (inside c.args.size c.args.n c.args.k c.args.f c.if-n-k.false c.requires.0))

pub returns : goal.returns
returns c =
    record {
      is = c.wide.ensures.is ∙ sym (cell_in _ _ _ _ _ _ c.if-n-k.false);
      small = c.wide.ensures.small;
    }
