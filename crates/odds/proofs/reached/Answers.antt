-- `odds::reached` meets its contract: both products fit, and they are compared.
-- Assumes nothing.
use Prim.Native.Nat.{◌*◌, ℕ}
use mathlib.Core.Path.{ap₂}
use native.Mathlib.Omega.{arith}
use lib.Dec.{leb}
use Rattle.odds.proofs.Columns.{product_fits, product_fits_too}
use Rattle.odds.specs.Odds.{reached}
use Rattle.odds.proofs.reached.Goals as goal

pub overflow_mul-result : goal.overflow_mul-result
overflow_mul-result c = omega (arith, product_fits c.attack_odds.ensures.small c.requires.2)

pub overflow_mul-result-2 : goal.overflow_mul-result-2
overflow_mul-result-2 c = omega (arith, product_fits_too c.requires.1 c.defence_odds.ensures.small)

pub returns : goal.returns
unfolding reached
returns c =
    let a = c.args in
    ap₂ (λ (x y : ℕ). leb (x * a.defence) (a.attack * y)) c.attack_odds.ensures.is c.defence_odds.ensures.is
