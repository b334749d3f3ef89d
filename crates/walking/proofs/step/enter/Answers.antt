-- `enter` meets its contract: what is near is the neighbour, with its column and row.
-- Assumes nothing.
use Rattle.std.specs.Prelude.{Some}
use mathlib.Core.Path.{◌≡◌, refl}
use native.Mathlib.Omega.{arith}
use Rattle.grid.specs.Map.{neighbour_of}
use Rattle.grid.specs.Spot.{SpotOf}
use Rattle.walking.proofs.step.enter.Goals as goal

pub returns-in_err-t : goal.returns-in_err-t
returns-in_err-t c = rw c.from_residual.ensures (rw c.in_err-t.was at c.near.ensures)

pub bounds-buf-n : goal.bounds-buf-n
bounds-buf-n c =
    let n : (neighbour_of _ _ _ _ ≡ Some _) × SpotOf _ _ _ = rw c.in_ok-t.was at c.near.ensures in
    omega (arith, c.requires.buf_len, n.1.on.below)

pub returns : goal.returns
returns c =
    let n : (neighbour_of _ _ _ _ ≡ Some _) × SpotOf _ _ _ = rw c.in_ok-t.was at c.near.ensures in
    (n.0, n.1, refl, refl)
