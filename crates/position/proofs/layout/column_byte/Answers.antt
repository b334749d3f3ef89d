-- `layout::column_byte` meets its contract: the view says how many columns there are.
-- Assumes nothing.
use mathlib.Core.Path.{refl}
use Rattle.position.specs.Layout.{column_size, column_byte}
use Rattle.position.proofs.Cells.{read_at}
use Rattle.position.proofs.layout.column_byte.Goals as goal

pub returns : goal.returns
unfolding column_byte
returns c =
    let v = c.requires.0.view in read_at _ column_size _ _ c.cell.ensures refl v.columns
