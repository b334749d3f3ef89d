-- `layout::desk_byte` meets its contract: the view says where the desk begins.
-- Assumes nothing.
use Prim.Native.Nat.{ℕ, ◌+◌}
use mathlib.Core.Path.{ap, ◌∙◌}
use Rattle.position.specs.Layout.{byte, desk_byte}
use Rattle.position.proofs.layout.desk_byte.Goals as goal

pub returns : goal.returns
unfolding desk_byte
returns c =
    record {
      is = c.wide.ensures.is ∙ ap (λ (i : ℕ). byte c.args.p.now (i + c.args.f)) c.requires.0.view.desk;
      small = c.wide.ensures.small;
    }
