use Rattle.plot.proofs.Plots.{stand_free, stand_loose, stand_shut}
use Rattle.plot.specs.Plot.{stand_in}
use mathlib.Core.Path.{sym}
use native.Mathlib.Omega.{arith}
use Rattle.plot.proofs.stand_in.Goals as goal

pub returns-then-m-eq1 : goal.returns-then-m-eq1
unfolding stand_in
returns-then-m-eq1 c = sym (stand_free _ (omega (arith, c.wide-m.ensures.is)))

pub returns-then-m-eq2 : goal.returns-then-m-eq2
unfolding stand_in
returns-then-m-eq2 c = sym (stand_loose _ (omega (arith, c.wide-m.ensures.is)))

pub returns : goal.returns
unfolding stand_in
returns c = sym (stand_shut _ (λ e. omega (arith, c.wide-m.ensures.is)) (λ e. omega (arith, c.wide-m.ensures.is)))
