use Rattle.plot.specs.Plot.{restood}
use Prim.Native.Nat.{ℕ}
use mathlib.Core.Path.{ap, ◌∙◌}
use Rattle.plot.proofs.Plots.{shift_is}
use Rattle.plot.proofs.shift.Goals as goal

pub returns : goal.returns
returns c =
    shift_is _ _ _ _ _
    (c.restood.ensures.0 ∙ ap (λ (m : ℕ). restood m 1) c.wide.ensures.is)
    (c.restood-2.ensures.0 ∙ ap (λ (m : ℕ). restood m 2) c.wide-2.ensures.is)
