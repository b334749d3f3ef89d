-- Beside what is certain: examples.
-- A small board on which zones and the search are computed.
-- Assumes nothing.
use Rattle.std.specs.Prelude.{ℕ, zero, suc, ◌≡◌, refl, true, false, [], ◌∷◌, map, Some, None}
use Rattle.position.specs.Board.{Board, nowhere}
use Rattle.position.specs.Kind.{force, casts_zone}
use Rattle.field.specs.Scene.{force_in}
use Rattle.field.specs.Zone.{holds, supply_unit_on}
use Rattle.routes.specs.Bears.{bears, refuge}
use Rattle.routes.specs.Search.{entered, step_of, first_of, go_on, first_route}
use Rattle.routes.specs.Part.{is_run, no_longer, part_route}
use Rattle.routes.specs.Outlook.{friends}
use Rattle.routes.specs.Rulings.{routes_open, plain}

-- 'unfolding searching' opens all that the search computes by
unfoldable pub searching : ℕ
unfolding routes_open force casts_zone force_in entered step_of first_of go_on first_route is_run no_longer part_route holds supply_unit_on friends
searching = 0

abbrev pub standing : ℕ → ℕ
standing zero = 7
standing (suc zero) = 6
standing (suc (suc u)) = 24

-- the plain board with infantry: of force 0 on hex 7, of force 1 on hex 6 beside it, of force 2 on hex 24
abbrev pub watched : Board
watched =
    record {
      chart = plain.chart;
      results = plain.results;
      map = plain.map;
      units =
          record {
            count = 3;
            counter = record { nationality = λ u. u; kind = λ u. 2; allowance = λ u. 0 };
            state = record { hex = standing; shown = λ u. 0; marks = λ u. 0; role = λ u. 0 };
          };
      desk = plain.desk;
    }

-- "Readings to reject. Letting friends lift a zone for movement or retreat": force 0's own unit on hex 7 lifts none
pub no_lift : map (bears watched 0) (7 ∷ 5 ∷ 8 ∷ []) ≡ false ∷ false ∷ true ∷ []
unfolding searching
no_lift = refl

-- a hex that holds friends may bear, and is no refuge
pub vacant_only : (bears watched 2 24 ≡ true) × (refuge watched 2 24 ≡ false)
unfolding searching
vacant_only = (refl, refl)

-- force 2 might push its unit out of hex 24; force 0 not its own out of hex 7, which lies in a zone, nor a unit of force 2
pub who_is_near : (friends watched 2 24 ≡ true) × (friends watched 0 7 ≡ false) × (friends watched 0 24 ≡ false)
unfolding searching
who_is_near = (refl, refl, refl)

-- the first route on the plain board, one past the zones, and none out of the corner that they close
pub northward : first_route plain 0 12 2 ≡ Some (7, 2, nowhere)
unfolding searching
northward = refl

pub past_zones : first_route watched 0 12 3 ≡ Some (8, 3, 4)
unfolding searching
past_zones = refl

pub cornered : first_route watched 0 0 1 ≡ None
unfolding searching
cornered = refl

-- out of that corner the part route is empty
pub cornered_there : map (part_route watched 0 0) ([] ∷ (1 ∷ []) ∷ []) ≡ true ∷ false ∷ []
unfolding searching
cornered_there = refl

-- from hex 7 the longest runs have two steps, and there are several: one step is too short, and hex 2, again beside hex 7, curls
pub as_far_as_it_can :
    map (part_route watched 0 7) ((3 ∷ 9 ∷ []) ∷ (8 ∷ 14 ∷ []) ∷ (3 ∷ []) ∷ (3 ∷ 2 ∷ []) ∷ []) ≡ true ∷ true ∷ false ∷ false ∷ []
unfolding searching
as_far_as_it_can = refl
