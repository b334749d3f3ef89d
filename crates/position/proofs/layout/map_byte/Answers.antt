-- `layout::map_byte` meets its contract: the view says where the hexes begin, and that the hex is one of them.
-- Assumes nothing.
use mathlib.Core.Path.{sym, ◌∙◌}
use native.Mathlib.Omega.{arith}
use Rattle.position.specs.Layout.{hex_size, hex_byte, map_at}
use Rattle.position.proofs.Cells.{cell_in, read_at}
use Rattle.position.proofs.layout.map_byte.Goals as goal

pub returns : goal.returns
unfolding hex_byte map_at
returns c =
    let o = c.requires in
    let v = o.0.view in
    let is = c.wide.ensures.is ∙ sym (cell_in _ _ hex_size _ _ _ o.2) in
    read_at _ hex_size _ _ (record { is = is; small = c.wide.ensures.small }) (omega (arith, v.columns)) v.hexes
