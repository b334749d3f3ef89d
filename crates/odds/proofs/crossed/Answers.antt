-- `odds::crossed` meets its contract: the side in the direction of the target, which the unit stands beside.
-- Assumes nothing.
use Prim.Native.Nat.{ℕ}
use mathlib.Core.Path.{◌∙◌, ap}
use native.Mathlib.Omega.{arith}
use Rattle.position.specs.Board.{board, ground}
use Rattle.position.specs.Ground.{joined}
use Rattle.position.proofs.Bearings.{bearing_below}
use Rattle.position.proofs.Ranges.{sought_some, sought_at}
use Rattle.odds.proofs.Columns.{crossed_read}
use Rattle.odds.proofs.crossed.Goals as goal

pub unwrap-d-requires : goal.unwrap-d-requires
unwrap-d-requires c =
    let a = c.args in
    let m = ground a.p.now in
    sought_some _ _ _ c.bearing.ensures (bearing_below m c.hex-h.result a.target (ap (λ (h : ℕ). joined m h a.target) c.hex-h.ensures.is ∙ c.requires.1))

pub side-requires : goal.side-requires
side-requires c = (c.requires.0, (sought_at _ _ _ c.bearing.ensures c.unwrap-d.ensures).1)

pub returns : goal.returns
returns c =
    record {
      is = crossed_read (board c.args.p.now) c.args.target c.args.u c.hex-h.ensures.is (sought_at _ _ _ c.bearing.ensures c.unwrap-d.ensures).0 c.side.ensures.is c.side_multiple.ensures.is;
      small = c.side_multiple.ensures.small;
    }
