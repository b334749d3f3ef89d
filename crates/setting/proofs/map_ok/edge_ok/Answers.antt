-- `map_ok::edge_ok` meets its contract: by the view the neighbour is the map's.
-- Assumes nothing.
use Prim.Native.Nat.{ℕ}
use mathlib.Core.Path.{◌≡◌, ◌∙◌}
use native.Mathlib.Omega.{arith}
use Rattle.position.proofs.Sides.{beside_view}
use Rattle.setting.proofs.map_ok.edge_ok.Goals as goal

pub returns-in-Some : goal.returns-in-Some
returns-in-Some c =
    record {
      plain = λ e. absurd (let z : ◌≡◌ {A = ℕ} 0 1 = cc
          ((c.neighbour.ensures ∙ beside_view c.requires.0.view c.args.h c.args.d), c.in-Some.is) in omega arith);
    }

pub returns : goal.returns
returns c = record { plain = λ off. omega (arith, c.stored.ensures) }
