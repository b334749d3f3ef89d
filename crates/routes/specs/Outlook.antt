-- Beside what is certain: vocabulary of contracts and proofs.
-- What the outlook of a retreating group is: a legal route, friends near who might be pushed, or neither.
-- Assumes nothing.
use Rattle.std.specs.Prelude.{ℕ, ◌≤◌, ◌<◌, ◌≡◌, Bool, true, false, not, ◌&&◌, List}
use Rattle.grid.specs.Map.{On}
use Rattle.grid.specs.Walk.{distance_of}
use Rattle.position.specs.Tally.{any}
use Rattle.position.specs.Bits.{has}
use Rattle.position.specs.Layout.{byte}
use Rattle.position.specs.Board.{Board}
use Rattle.field.specs.Scene.{scene}
use Rattle.field.specs.Zone.{holds, supply_unit_on, enemy_zone}
use Rattle.paint.specs.Paint.{zone_mark, own_mark, depot_mark}
use Rattle.routes.specs.declared.Outlook.{Outlook}
use Rattle.routes.specs.declared.Outlook.TheVariants.{Legal, Illegal, Friends, Alone}
use Rattle.routes.specs.Legal.{legal}
use Rattle.routes.specs.Search.{first_route, found}
use Rattle.routes.specs.Part.{is_run}

-- "A stack with a supply unit .. can't be pushed", and a step goes "into a hex that bears": so the hex x of a stack that force f can push
-- holds units of f, no supply unit of f among them, and lies outside Enemy zones
unfoldable pub friends : Board → ℕ → ℕ → Bool
friends b f x =
    holds (scene b) f x && (not (any (supply_unit_on (scene b) f x) b.units.count) && not (enemy_zone (scene b) f x))

-- the same by the hex's marks m,
unfoldable pub friendly : ℕ → Bool
friendly m = has own_mark m && (not (has depot_mark m) && not (has zone_mark m))

-- and by place i of a window
unfoldable pub friendly_at : List ℕ → ℕ → Bool
friendly_at l i = friendly (byte l i)

-- no hex within three of the start, but for the start itself, has friends who might be pushed
pub record Nobody (b : Board) (f start : ℕ) : Type 0 where
  pub near :
      (x : ℕ) → On b.map.width b.map.height x → distance_of b.map.width start x ≤ 3 → (x ≡ start → ⊥)
      → friends b f x ≡ false

-- a route of k hexes is tested for r steps: the n that are owed, or its own where no legal route is found and it has fewer
pub record RouteTested (found : Bool) (n k r : ℕ) : Type 0 where
  pub owed : found ≡ true → r ≡ n
  pub own : found ≡ false → k < n → r ≡ k
  pub most : found ≡ false → n ≤ k → r ≡ n

-- what each outlook says of a group that was sent this route. `Friends` says of pushes only that they have to be looked for
abbrev pub OutlookOf : Board → ℕ → ℕ → ℕ → List ℕ → Outlook → Type 0
OutlookOf b f start n route Legal = (found (first_route b f start n) ≡ true) × (legal b f start n route ≡ true)
OutlookOf b f start n route Illegal = (found (first_route b f start n) ≡ true) × (legal b f start n route ≡ false)
OutlookOf b f start n route (Friends run) = (found (first_route b f start n) ≡ false) × (run ≡ is_run b f start route)
OutlookOf b f start n route (Alone run) =
    (found (first_route b f start n) ≡ false) × (run ≡ is_run b f start route) × Nobody b f start
