-- The route that a retreat writes is lawful: a standable hex, and behind it hexes that are standable and joined to the one before.
-- Assumes nothing.
use Prim.Native.Nat.{ℕ, zero, suc, ◌+◌, ◌≤◌, ◌<◌}
use mathlib.Core.Path.{◌≡◌, refl, sym, ap, ◌∙◌}
use mathlib.Core.Bool.{true, not}
use mathlib.Core.List.{List, ◌∷◌}
use native.Mathlib.Omega.{arith}
use native.Mathlib.Numerals.{add-one}
use lib.ListN.{get_or, length}
use Rattle.position.specs.Layout.{route_count}
use Rattle.position.specs.Board.{Board, nowhere}
use Rattle.position.specs.Ground.{joined, standable}
use Rattle.position.specs.Crowd.{routes}
use Rattle.position.specs.Change.Change.{routed}
use Rattle.position.specs.Effect.{change, of_four}
use Rattle.position.specs.Stage as Stage
use Rattle.position.proofs.Tallies.{both_yes}
use Rattle.acceptance.specs.Accepted.{Lawful, PlaceOk}
use Rattle.acceptance.proofs.Carries.{fixed_change, standable_by}
use Rattle.acceptance.proofs.Lawfuls.{standable_on}
use Rattle.acceptance.proofs.Routings.{route_there, routes_filled}
use Rattle.acceptance.proofs.Since.{Since, since_lawful, since_routed}
use Rattle.field.specs.Listed.{Charted}
use Rattle.field.specs.Scene.{scene}
use Rattle.field.specs.Zone.{enemy_zone, vacant}
use Rattle.routes.specs.Bears.{bears, refuge}
use Rattle.routes.specs.Run.{Run, stay, go}
use Rattle.routes.proofs.Steps.{next_joined}
use Rattle.chains.specs.Stand.{is_free, is_loose}
use Rattle.chains.specs.Chain.{Stands}
use Rattle.chains.specs.Series.{Series, stay, walk, shove, land_of}
use Rattle.chains.proofs.Find.{Opens, free_open, loose_open, open_after}
use Rattle.shoves.proofs.KeepChain.{chain_last}

-- hex x may follow hex a in a route
pub record Follows (b : Board) (a x : ℕ) : Type 0 where
  pub front : a ≡ nowhere → ⊥
  pub step : joined b.map a x ≡ true
  pub stands : standable b x ≡ true

-- a standable hex is on the map
pub standable_where : (b : Board) (h : ℕ) → b.map.hexes ≤ nowhere → standable b h ≡ true → h ≡ nowhere → ⊥
standable_where b h most s e = omega (arith, standable_on b h s)

-- a refuge is vacant and standable
module _ (b : Board) (f h : ℕ) (e : refuge b f h ≡ true) where
  pub refuge_vacant : vacant (scene b) h ≡ true
  unfolding refuge
  refuge_vacant = (both_yes (vacant (scene b) h) (bears b f h) e).0

  refuge_bears : bears b f h ≡ true
  unfolding refuge
  refuge_bears = (both_yes (vacant (scene b) h) (bears b f h) e).1

  pub refuge_stands : standable b h ≡ true
  unfolding bears
  refuge_stands = (both_yes (standable b h) (not (enemy_zone (scene b) f h)) refuge_bears).0

-- the hexes of a run are on the map
pub run_charted : {b : Board} {f start i a last : ℕ} {route : List ℕ} → Run b f start i a route last → Charted b route
run_charted stay j l = absurd (omega arith)
run_charted {b} {f} (go {x = x} d s k) zero l = standable_on b x (refuge_stands b f x s.into)
run_charted (go d s k) (suc j) l = run_charted k j (omega arith)

-- they are refuges, and each may follow the one before
module _ {b : Board} {f start : ℕ} (most : b.map.hexes ≤ nowhere) where
  pub run_refuge :
      {i a last : ℕ} {route : List ℕ} → Run b f start i a route last → (j : ℕ) → j < length route
      → refuge b f (get_or route j nowhere) ≡ true
  run_refuge stay j l = absurd (omega arith)
  run_refuge (go d s k) zero l = s.into
  run_refuge (go d s k) (suc j) l = run_refuge k j (omega arith)

  pub run_follows :
      {i a last : ℕ} {route : List ℕ} → (a ≡ nowhere → ⊥) → Run b f start i a route last → (j : ℕ)
      → (get_or route j nowhere ≡ nowhere → ⊥) → Follows b (get_or (a ∷ route) j nowhere) (get_or route j nowhere)
  run_follows n stay j m = absurd (m refl)
  run_follows n (go {a = a} {x = x} d s k) zero m =
      record { front = n; step = next_joined b.map a x d s.leads; stands = refuge_stands b f x s.into }
  run_follows n (go {x = x} d s k) (suc j) m =
      run_follows (standable_where b x most (refuge_stands b f x s.into)) k j m

-- so may each hex of a series: what is not shut to the group can be stood on
abbrev Open : Board → Stands → Type 0
Open b s = Opens (λ h. standable b h ≡ true) s

module _ {b : Board} (start : ℕ) (most : b.map.hexes ≤ nowhere) where
  pub series_follows :
      {s : Stands} {i a : ℕ} {route pushes : List ℕ} → Open b s → (a ≡ nowhere → ⊥) → Series (land_of b start) s i a route pushes
      → (j : ℕ) → (get_or route j nowhere ≡ nowhere → ⊥) → Follows b (get_or (a ∷ route) j nowhere) (get_or route j nowhere)
  unfolding land_of
  series_follows o n stay j m = absurd (m refl)
  series_follows {s} o n (walk {a = a} {x = x} d t y k) zero m =
      record { front = n; step = next_joined b.map a x d t.leads; stands = o x (free_open (ap is_free y)) }
  series_follows {s} o n (walk {x = x} d t y k) (suc j) m =
      series_follows o (standable_where b x most (o x (free_open (ap is_free y)))) k j m
  series_follows {s} o n (shove {a = a} {x = x} d t y c k) zero m =
      record { front = n; step = next_joined b.map a x d t.leads; stands = o x (loose_open (ap is_loose y)) }
  series_follows {s} o n (shove {x = x} {y = last} d t y c k) (suc j) m =
      let i = o x (loose_open (ap is_loose y)) in
      let k' = o last (free_open (ap is_free (chain_last c))) in
      series_follows (open_after (λ h. standable b h ≡ true) s o x last i k') (standable_where b x most i) k j m

-- four numbers of which each may follow the one before
module _
    (b : Board)
    (r w x y z : ℕ)
    (l : r < route_count)
    (s : standable b w ≡ true)
    (f : (j : ℕ) → (of_four (suc j) w x y z ≡ nowhere → ⊥) → Follows b (of_four j w x y z) (of_four (suc j) w x y z)) where
  abbrev written : Board
  written = change b (routed r w x y z)

  here : (j : ℕ) → written.desk.route r j ≡ of_four j w x y z
  here = route_there b r w x y z l

  next : (j : ℕ) → written.desk.route r (j + 1) ≡ of_four (suc j) w x y z
  next j = here (j + 1) ∙ ap (λ (k : ℕ). of_four k w x y z) (add-one j)

  each_stands : (j : ℕ) → (of_four j w x y z ≡ nowhere → ⊥) → standable b (of_four j w x y z) ≡ true
  each_stands zero n = s
  each_stands (suc j) n = (f j n).stands

  places_written : (j : ℕ) → PlaceOk written r j
  places_written j =
      let k = fixed_change b (routed r w x y z) in
      record {
        link =
            record {
              front = λ n e. (f j (λ q. n (next j ∙ q))).front (sym (here j) ∙ e);
              step = λ n. rw (here j, next j, k.map) (f j (λ q. n (next j ∙ q))).step;
            };
        stands =
            λ n.
            ap (standable written) (here j)
            ∙ standable_by k (of_four j w x y z)
            ∙ each_stands j (λ q. n (here j ∙ q));
      }

-- "k plus filled routes is at most 6": while a hex owes there is room for a route
pub routes_room : {b : Board} → Lawful b → b.desk.battle.stage ≡ Stage.retreats → routes b < route_count
routes_room l e = let o = l.stage.during.retreats e in omega (arith, o.some, o.room)

-- the next route is written
pub since_written :
    {b : Board} → Lawful b → b.map.hexes ≤ nowhere → b.desk.battle.stage ≡ Stage.retreats → (w x y z : ℕ) → standable b w ≡ true
    → ((x ≡ nowhere → ⊥) → Follows b w x) → ((y ≡ nowhere → ⊥) → Follows b x y) → ((z ≡ nowhere → ⊥) → Follows b y z)
    → Since b (change b (routed (routes b) w x y z))
since_written {b} l most e w x y z s one two three =
    since_routed most (since_lawful l) (routes b) w x y z (routes_room l e) (standable_where b w most s)
    (λ i q. routes_filled l.routes i (omega arith))
    (λ j _. places_written b (routes b) w x y z (routes_room l e) s each j)
  where
    each : (j : ℕ) → (of_four (suc j) w x y z ≡ nowhere → ⊥) → Follows b (of_four j w x y z) (of_four (suc j) w x y z)
    each zero n = one n
    each (suc zero) n = two n
    each (suc (suc zero)) n = three n
    each (suc (suc (suc j))) n = absurd (n refl)
