-- Beside what is certain: examples.
-- Document 01's roster, computed: "`0 2 O`, `1 1 O`. With unit 1 destroyed: `0 2 S`."
-- Assumes nothing.
use Rattle.std.specs.Prelude.{ℕ, ◌≡◌, refl, true, false, [], ◌∷◌}
use Rattle.position.specs.Kind.{casts_zone}
use Rattle.position.specs.Board.{board, enemy}
use Rattle.position.specs.Parts.{Parts, but, built, unit_hex}
use Rattle.acceptance.specs.Examples.{computing, roster, roster_less, landed, landed_together, landed_parts, two_players}
use Rattle.walk.specs.Examples.{sweeping}
use Rattle.walk.specs.Sweep.{tab}
use Rattle.field.specs.Scene.{force_in, scene}
use Rattle.field.specs.Zone.{stands_on, own_on, holds, supply_unit_on, enemy_on, holds_enemy, caster_on, holds_caster, caster_at, casts_over, casts, enemy_casts, enemy_zone}
use Rattle.supply.specs.Open.{open_to, home_source, coastal, landing, landed_source, source, grade}
use Rattle.supply.specs.Supply.{grades, supplied}

-- 'unfolding supplying' opens what supply computes by
unfoldable pub supplying : ℕ
unfolding computing sweeping tab casts_zone enemy force_in stands_on own_on holds enemy_on holds_enemy caster_on holds_caster caster_at casts_over casts enemy_casts enemy_zone open_to home_source coastal supply_unit_on landing landed_source source grade grades supplied
supplying = 0

-- the US unit on hex 2 and the E.S.C. unit on hex 1 are both out of supply
pub both_out : supplied (scene (board roster)) 3 2 ∷ supplied (scene (board roster)) 1 1 ∷ [] ≡ false ∷ false ∷ []
unfolding supplying
both_out = refl

-- with the E.S.C. unit destroyed the line to hex 0 is open
pub one_in : supplied (scene (board roster_less)) 3 2 ≡ true
unfolding supplying
one_in = refl

-- The S.A.U. has landed on hex 0. A unit of the E.S.C. on hex 1 stands in the line from hex 2, and on hex 2 casts its zone over hex 1: as
-- Enemy it stops both lines, as a neutral neither.
abbrev farther : Parts
farther = but landed_parts unit_hex 1 2

pub enemy_stops : supplied (scene (board landed)) 0 2 ∷ supplied (scene (board (built farther))) 0 1 ∷ [] ≡ false ∷ false ∷ []
unfolding supplying
enemy_stops = refl

pub neutral_lets_through : supplied (scene (board landed_together)) 0 2 ∷ supplied (scene (board (built (two_players farther)))) 0 1 ∷ [] ≡ true ∷ true ∷ []
unfolding supplying
neutral_lets_through = refl
