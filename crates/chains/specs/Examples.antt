-- Beside what is certain: examples.
-- Chains, series and the search, computed along a road of hexes and on a small board.
-- Assumes nothing.
use Rattle.std.specs.Prelude.{ℕ, zero, suc, ◌≡◌, refl, true, false, cond, List, [], ◌∷◌, map, eqb, leb, Option, Some, None}
use Rattle.position.specs.Tally.{any}
use Rattle.position.specs.Board.{Board, force_of}
use Rattle.position.specs.Ground.{is_at}
use Rattle.position.specs.Crowd.{owes_at}
use Rattle.field.specs.Listed.{named}
use Rattle.routes.specs.Rulings.{plain}
use Rattle.routes.specs.Examples.{searching}
use Rattle.chains.specs.declared.Stand.TheVariants.{Shut, Free, Loose}
use Rattle.chains.specs.Stand.{apart, firm, bars, stand}
use Rattle.chains.specs.Chain.{Stands, rests, yields, leads_to, leads, has_rest, after}
use Rattle.chains.specs.Series.{Land, land_of}
use Rattle.chains.specs.Follows.{up_to, wrong, takes, follows, legal_pushes}
use Rattle.chains.specs.Serves.{ends_in, on_with, on_over, serves, pushes_serve}
use Rattle.chains.specs.Find.{pick, step_for, push_on, chain_to, still, entering, seek_with, seek_over, seek_at, series_of, series_for}

-- 'unfolding pushing' opens all that a series is computed by
unfoldable pub pushing : ℕ
unfolding searching any is_at named owes_at force_of apart firm bars stand rests yields leads_to leads has_rest after land_of takes follows legal_pushes ends_in on_with on_over serves pushes_serve pick step_for push_on chain_to still entering seek_with seek_over seek_at series_of series_for
pushing = 0

-- a road of hexes 0 to 5, and hex 6 beside hex 1
abbrev pub road_on : ℕ → Option ℕ
road_on h = cond (leb 5 h) None (Some (suc h))

abbrev pub road_back : ℕ → Option ℕ
road_back zero = None
road_back (suc h) = cond (leb 5 h) None (Some h)

abbrev pub road_side : ℕ → Option ℕ
road_side h = cond (eqb h 1) (Some 6) None

abbrev pub road_ways : ℕ → ℕ → Option ℕ
road_ways h zero = road_side h
road_ways h (suc zero) = None
road_ways h (suc (suc zero)) = road_on h
road_ways h (suc (suc (suc zero))) = None
road_ways h (suc (suc (suc (suc zero)))) = None
road_ways h (suc (suc (suc (suc (suc d))))) = road_back h

-- it starts in hex 0
abbrev pub road : Land
road = record { hexes = 7; next = road_ways; far = λ x. x }

-- stacks that can be pushed stand in these hexes, and nobody may go to those
abbrev pub held : List ℕ → List ℕ → Stands
held stacks closed h = cond (named closed h) Shut (cond (named stacks h) Loose Free)

-- a chain of three serves, a fourth stack is too many
pub three : serves road (held (1 ∷ 2 ∷ 3 ∷ []) (6 ∷ [])) 1 0 0 ≡ true
unfolding pushing
three = refl

pub four : serves road (held (1 ∷ 2 ∷ 3 ∷ 4 ∷ []) (6 ∷ [])) 1 0 0 ≡ false
unfolding pushing
four = refl

-- "A pushed stack uses a vacant hex if it has one": from hex 1 it goes to hex 6, and does not push on
pub must_rest : (takes road_ways (held (1 ∷ 2 ∷ []) []) (0 ∷ []) 3 1 (6 ∷ []) ≡ up_to 6 [])
    × (takes road_ways (held (1 ∷ 2 ∷ []) []) (0 ∷ []) 3 1 (2 ∷ 3 ∷ []) ≡ wrong)
unfolding pushing
must_rest = (refl, refl)

-- "A chain .. begins with the group's own hex", and none comes twice: the stack in hex 1 can't go to hex 0
pub own_hex : (takes road_ways (held (1 ∷ []) (2 ∷ 6 ∷ [])) (0 ∷ []) 3 1 (0 ∷ []) ≡ wrong)
    × (serves road (held (1 ∷ []) (2 ∷ 6 ∷ [])) 1 0 0 ≡ false)
unfolding pushing
own_hex = (refl, refl)

-- "Each step's chain is done before the next step": the stack that the first step pushed is pushed again, to the hex that it finds vacant
pub again : (follows road (held (1 ∷ []) (6 ∷ [])) 0 0 (1 ∷ 2 ∷ []) (2 ∷ 3 ∷ []) ≡ true)
    × (follows road (held (1 ∷ []) (6 ∷ [])) 0 0 (1 ∷ 2 ∷ []) (2 ∷ []) ≡ false)
    × (follows road (held (1 ∷ []) (6 ∷ [])) 0 0 (1 ∷ 2 ∷ []) (2 ∷ 3 ∷ 4 ∷ []) ≡ false)
unfolding pushing
again = (refl, refl, refl)

-- the search finds three steps, each of which pushes
pub far_off : serves road (held (1 ∷ []) (6 ∷ [])) 3 0 0 ≡ true
unfolding pushing
far_off = refl

-- and which they are; a chain of three is found too
pub found_off : (series_of road (held (1 ∷ []) (6 ∷ [])) 3 0 0 ≡ record { route = 1 ∷ 2 ∷ 3 ∷ []; pushes = 2 ∷ 3 ∷ 4 ∷ [] })
    × (series_of road (held (1 ∷ 2 ∷ 3 ∷ []) (6 ∷ [])) 1 0 0 ≡ record { route = 1 ∷ []; pushes = 2 ∷ 3 ∷ 4 ∷ [] })
unfolding pushing
found_off = (refl, refl)

-- a table for units 0 to 3
abbrev pub four_of : ℕ → ℕ → ℕ → ℕ → ℕ → ℕ
four_of a b c d zero = a
four_of a b c d (suc zero) = b
four_of a b c d (suc (suc zero)) = c
four_of a b c d (suc (suc (suc u))) = d

-- the plain board with a group of force 0 that owes in the corner, hex 0; beside it infantry on hex 1 and a supply unit on hex 5, both of
-- force 0; and infantry of force 1 on hex 8, whose zone covers hex 7
abbrev pub crowded : Board
crowded =
    record {
      chart = plain.chart;
      results = plain.results;
      map = plain.map;
      units =
          record {
            count = 4;
            counter = record { nationality = four_of 0 0 0 1; kind = four_of 2 2 5 2; allowance = λ u. 0 };
            state = record { hex = four_of 0 1 5 8; shown = λ u. 0; marks = λ u. 0; role = four_of 1 0 0 0 };
          };
      desk = plain.desk;
    }

-- the hex that the group leaves is vacant, "a stack with a supply unit .. can't be pushed", and neither is there a way into a zone
pub what_stands : map (stand crowded 0 0) (0 ∷ 1 ∷ 5 ∷ 2 ∷ 7 ∷ 8 ∷ []) ≡ Free ∷ Loose ∷ Shut ∷ Free ∷ Shut ∷ Shut ∷ []
unfolding pushing
what_stands = refl

-- so the group goes to hex 1, and the stack there to any vacant hex that bears
pub out_of_the_corner : (legal_pushes crowded 0 0 1 (1 ∷ []) (2 ∷ []) ≡ true)
    × (legal_pushes crowded 0 0 1 (1 ∷ []) (7 ∷ []) ≡ false)
    × (legal_pushes crowded 0 0 1 (5 ∷ []) (10 ∷ []) ≡ false)
unfolding pushing
out_of_the_corner = (refl, refl, refl)

pub corner_serves : (pushes_serve crowded 0 0 1 ≡ true) × (pushes_serve crowded 0 0 2 ≡ true)
unfolding pushing
corner_serves = (refl, refl)

-- the stack is sent to hex 6
pub corner_found : series_for crowded 0 0 1 ≡ record { route = 1 ∷ []; pushes = 6 ∷ [] }
unfolding pushing
corner_found = refl
