-- `layout::hex_byte` meets its contract: the view says where the hexes begin and how many there are.
-- Assumes nothing.
use native.Mathlib.Omega.{arith}
use Rattle.position.specs.Layout.{hex_size, hex_byte, map_at}
use Rattle.position.proofs.Cells.{read_at}
use Rattle.position.proofs.layout.hex_byte.Goals as goal

pub returns : goal.returns
unfolding hex_byte map_at
returns c =
    let v = c.requires.0.view in
    read_at _ hex_size _ _ c.cell.ensures (omega (arith, v.columns)) v.hexes
