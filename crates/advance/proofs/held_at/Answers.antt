-- `advance::held_at` meets its contract: the hex is read, and then asked.
-- Assumes nothing.
use mathlib.Core.Path.{ap, ◌∙◌}
use Rattle.position.specs.Board.{board}
use Rattle.aftermath.specs.Advance.{shut, held_at}
use Rattle.advance.proofs.held_at.Goals as goal

pub returns : goal.returns
unfolding held_at
returns c =
    let a = c.args in
    c.shut.ensures ∙ ap (shut (board a.p.now) a.u) c.route.ensures.is
