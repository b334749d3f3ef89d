-- The retreat's line of the table of small rulings, as rows that one table of the whole document can hold.
-- Assumes nothing.
use Rattle.std.specs.Prelude.{ℕ, List, [], ◌∷◌, true, false}
use Rattle.grid.specs.Rulings.{Row, row, grid_open}
use Rattle.position.specs.Tally.{any}
use Rattle.position.specs.Board.{Board, nowhere, enemy}
use Rattle.position.specs.Ground.{stored, stored_at, side, next, is_at, joined, standable}
use Rattle.field.specs.Zone.{stands_on, vacant, own_on, caster_on, holds_caster, caster_at, casts_over, casts, enemy_casts, enemy_zone}
use Rattle.routes.specs.Bears.{bears, refuge}
use Rattle.routes.specs.Legal.{enters, steps_to, run_along, legal}

-- 'unfolding routes_open' opens the test of a route, for a row that is to be computed
unfoldable pub routes_open : ℕ
unfolding grid_open any enemy stored stored_at side next is_at joined standable stands_on vacant own_on caster_on holds_caster caster_at casts_over casts enemy_casts enemy_zone bears refuge enters steps_to run_along legal
routes_open = 0

-- "on 5 x 5": all land of cost 1, no unit
abbrev pub plain : Board
plain =
    record {
      chart = record { cost = λ t. 1; multiple = λ t. 1 };
      results = record { columns = 1; attack = λ c. 1; defence = λ c. 1; code = λ c die. 1 };
      map =
          record {
            width = 5;
            height = 5;
            hexes = 25;
            terrain = λ h. 0;
            surface = λ h. 0;
            flags = λ h. 0;
            country = λ h. 0;
            sides = λ h. 0;
          };
      units =
          record {
            count = 0;
            counter = record { nationality = λ u. 0; kind = λ u. 0; allowance = λ u. 0 };
            state = record { hex = λ u. nowhere; shown = λ u. 0; marks = λ u. 0; role = λ u. 0 };
          };
      desk =
          record {
            clock = record { turn = 1; force = 0; phase = 1 };
            last_turn = 1;
            battle = record { stage = 1; owed = 2; need = 0 };
            route = λ r j. nowhere;
            player = λ f. f;
          };
    }

-- "from 12, D2, route 7, 2 is legal by distance, 7, 8 is not"
abbrev pub routes_rows : List Row
routes_rows =
    row (legal plain 0 12 2 (7 ∷ 2 ∷ [])) true ∷
    row (legal plain 0 12 2 (7 ∷ 8 ∷ [])) false ∷
    []
