use Rattle.plot.specs.Plot.{restood}
use mathlib.Core.Path.{refl}
use native.Mathlib.Omega.{arith}
use Rattle.plot.proofs.restood.Goals as goal

pub returns : goal.returns
unfolding restood
returns c = (refl, omega arith)
