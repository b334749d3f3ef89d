-- The numbers of a position that have an end to their table: what stands and is written within, and what past the end.
-- Assumes nothing.
use Prim.Native.Nat.{ℕ, suc, ◌+◌, ◌*◌, ◌≤◌, ◌<◌}
use mathlib.Core.Path.{◌≡◌}
use mathlib.Core.List.{List}
use lib.ListN.{set}
use borrow.Author.Tests.{lt-ltb, le-ltb}
use Rattle.position.specs.Layout.{nowhere, codes_field, hex_field, route_count, route_hexes, count, column_byte, code, unit_at, unit_byte, hex, desk_byte, route_field, route, players_field, players_named, player, set_unit, die_faces}

module _ (p : List ℕ) (c die : ℕ) where
  pub code_in : 0 < die → die < 7 → code p c die ≡ column_byte p c (codes_field + die)
  unfolding code
  code_in l m = simp (lt-ltb 0 die l, lt-ltb die (suc die_faces) m)

  -- below the first die, and past the sixth
  pub code_none : die ≤ 0 → code p c die ≡ 0
  unfolding code
  code_none l = simp (le-ltb 0 die l)

  pub code_past : 0 < die → 7 ≤ die → code p c die ≡ 0
  unfolding code
  code_past l m = simp (lt-ltb 0 die l, le-ltb die (suc die_faces) m)

module _ (p : List ℕ) (u : ℕ) where
  pub hex_in : u < count p → hex p u ≡ unit_byte p u hex_field + 256 * unit_byte p u (hex_field + 1)
  unfolding hex
  hex_in l = simp (lt-ltb u (count p) l)

  pub hex_out : count p ≤ u → hex p u ≡ nowhere
  unfolding hex
  hex_out l = simp (le-ltb u (count p) l)

module _ (p : List ℕ) (r j : ℕ) where
  pub route_in : r < route_count → j < route_hexes → route p r j ≡ desk_byte p (route_field r j) + 256 * desk_byte p (route_field r j + 1)
  unfolding route
  route_in l m = simp (lt-ltb r route_count l, lt-ltb j route_hexes m)

  -- past the sixth route, and past the fourth number of one
  pub route_past : route_count ≤ r → route p r j ≡ nowhere
  unfolding route
  route_past l = simp (le-ltb r route_count l)

  pub route_over : r < route_count → route_hexes ≤ j → route p r j ≡ nowhere
  unfolding route
  route_over l m = simp (lt-ltb r route_count l, le-ltb j route_hexes m)

-- where the desk names a force's player, and where it does not
module _ (p : List ℕ) (f : ℕ) where
  pub player_in : f < players_named p → player p f ≡ desk_byte p (players_field + f)
  unfolding player
  player_in l = simp (lt-ltb f (players_named p) l)

  pub player_out : players_named p ≤ f → player p f ≡ f
  unfolding player
  player_out l = simp (le-ltb f (players_named p) l)

-- what is written to a unit, and to one that is not there
module _ (p : List ℕ) (u f x : ℕ) where
  pub set_unit_in : u < count p → set_unit p u f x ≡ set p (unit_at p u + f) x
  unfolding set_unit
  set_unit_in l = simp (lt-ltb u (count p) l)

  pub set_unit_out : count p ≤ u → set_unit p u f x ≡ p
  unfolding set_unit
  set_unit_out l = simp (le-ltb u (count p) l)
