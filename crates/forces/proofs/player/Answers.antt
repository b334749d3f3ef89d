-- `forces::player` meets its contract: the desk names the force's player, or it does not.
-- Assumes nothing.
use mathlib.Core.Path.{sym, ◌∙◌}
use native.Mathlib.Omega.{arith}
use Rattle.position.proofs.Tables.{player_in, player_out}
use Rattle.forces.proofs.player.Goals as goal

pub returns-then-unnamed : goal.returns-then-unnamed
returns-then-unnamed c = sym (player_out _ _ (omega (arith, c.if-unnamed.true, c.requires.view.players)))

pub returns : goal.returns
returns c =
    c.desk_byte.ensures.is ∙ sym (player_in _ _ (omega (arith, c.if-unnamed.false, c.requires.view.players)))
