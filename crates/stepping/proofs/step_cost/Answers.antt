-- `stepping::step_cost` meets its contract: the hex lies that way, and the side between is read.
-- Assumes nothing.
use Prim.Native.Nat.{◌+◌}
use mathlib.Core.Path.{ap, ap₂, ◌∙◌}
use native.Mathlib.Omega.{arith}
use Rattle.position.specs.Board.{board, ground}
use Rattle.position.specs.Ground.{side}
use Rattle.position.proofs.Sides.{next_over}
use Rattle.march.specs.Step.{side_cost, step_cost}
use Rattle.march.proofs.Steps.{turned_next}
use Rattle.stepping.proofs.step_cost.Goals as goal

pub between-requires : goal.between-requires
between-requires c =
    let a = c.args in
    let m = ground a.p.now in
    (c.requires.0, c.requires.1, next_over m a.h a.d a.x (rw c.requires.2 (turned_next (board a.p.now) a.h a.x (omega (arith, c.requires.1, c.requires.2)))))

pub returns : goal.returns
unfolding step_cost
returns c =
    let b = board c.args.p.now in
    record {
      is =
          ap₂ ◌+◌ (c.cost.ensures.is ∙ ap b.chart.cost c.terrain-terrain.ensures.is)
          (c.side_cost.ensures.is ∙ ap (side_cost b) (c.between.ensures.is ∙ ap (side b.map c.args.h) c.requires.2));
      small = omega (arith, c.cost.ensures.small, c.side_cost.ensures.small);
    }
