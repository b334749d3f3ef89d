-- `layout::unit_byte` meets its contract: the view says where the units begin and how many there are.
-- Assumes nothing.
use native.Mathlib.Omega.{arith}
use Rattle.position.specs.Layout.{unit_size, unit_byte}
use Rattle.position.proofs.Cells.{read_at}
use Rattle.position.proofs.layout.unit_byte.Goals as goal

pub returns : goal.returns
unfolding unit_byte
returns c =
    let v = c.requires.0.view in
    read_at _ unit_size _ _ c.cell.ensures (omega (arith, v.units)) v.count
